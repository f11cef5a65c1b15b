use Rattle.std.proofs.Common.{List, ◌++◌, ◌∷◌, [], sym, subst}
use Rattle.als_record.specs.declared.record.Record.{Record}
use Rattle.als_pool.specs.Pooled.{Pooled}
use Rattle.als_pool.specs.Images.{IsPoolOf, QueuesOf}
use Rattle.als_pool.proofs.Keeping.{keeps_route}
use Rattle.als_pool.proofs.Reading.{reads-route}
use Rattle.als_pool.specs.Restart.{HasRowsFrom, HoldsImagesOf}
use Rattle.als_pool.proofs.Restarting.{rows-route}
use Rattle.als_pool.proofs.Opened.{holds-route}
use Rattle.als_record.specs.LogText.{end_of}
use Rattle.als_pool.specs.Bounds.{EndsBelow}
use Rattle.als_pool.proofs.Bounding.{ends-route}
use Rattle.als_pool.proofs.pool.Pool.route.Goals as goal

pub returns-clause-keeps : goal.returns-clause-keeps
returns-clause-keeps g c log below r h is_log at is =
    let longer : List Record = log ++ r ∷ [] in
    subst (λ (v : Pooled). IsPoolOf longer below v) (sym c.add.ensures.value)
    (keeps_route log below c.args.self.now.pool r c.args.change c.requires.can.in_range is_log at is h)

pub returns-clause-reads : goal.returns-clause-reads
returns-clause-reads g c front r h at is le =
    subst (λ (v : Pooled). QueuesOf (front ++ r ∷ []) v) (sym c.add.ensures.value)
    (reads-route front r at c.args.self.now.pool c.args.change c.requires.can.in_range is le h)

pub returns-clause-holds : goal.returns-clause-holds
returns-clause-holds g c log below h =
    subst (λ (v : Pooled). HoldsImagesOf log below v) (sym c.add.ensures.value) (holds-route log below c.args.self.now.pool c.args.change c.requires.can.in_range h)

pub returns-clause-given : goal.returns-clause-given
returns-clause-given g c position rows h =
    subst (λ (v : Pooled). HasRowsFrom position rows v) (sym c.add.ensures.value) (rows-route position rows c.args.self.now.pool c.args.change c.requires.can.in_range h)

pub returns-clause-ends : goal.returns-clause-ends
returns-clause-ends g c log r h at is =
    subst (λ (v : Pooled). EndsBelow (end_of (log ++ r ∷ [])) v) (sym c.add.ensures.value) (ends-route log r c.args.self.now.pool c.args.change c.requires.can h at is)
