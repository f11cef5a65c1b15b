use Rattle.std.proofs.Common.{subst}
use Rattle.als_asking.specs.Bodies.{Asks}
use Rattle.als_asking.specs.declared.wanted.Wanted.{Wanted}
use Rattle.als_asking.specs.declared.wanted.Wanted.TheVariants.{One, Each}
use Rattle.als_asking.proofs.TakingLaws.{taken_from}
use Rattle.als_asking.proofs.taking.take.Goals as goal

pub returns-in-Ok-One : goal.returns-in-Ok-One
returns-in-Ok-One g c =
    taken_from g.C.Commits.commits c.args.manner c.args.body.now c.args.commits.now (One c.in-Ok-One.transaction) c.take_one.result c.take_one.new.commits
    (subst (λ (w : Wanted). Asks c.args.body.now w) c.in-Ok-One.field-0-is c.in-Ok-One.ensures.asks) c.take_one.ensures

pub returns-in-Ok-Each : goal.returns-in-Ok-Each
returns-in-Ok-Each g c =
    taken_from g.C.Commits.commits c.args.manner c.args.body.now c.args.commits.now (Each c.in-Ok-Each.transactions) c.take_each.result c.take_each.new.commits
    (subst (λ (w : Wanted). Asks c.args.body.now w) c.in-Ok-Each.field-0-is c.in-Ok-Each.ensures.asks) c.take_each.ensures
