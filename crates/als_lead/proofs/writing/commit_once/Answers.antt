use Rattle.als_engine.specs.Machine.{Machine}
use Rattle.als_lead.proofs.Doing.{does_commit, does_not_commit}
use Rattle.als_lead.proofs.writing.commit_once.Goals as goal

pub returns-in-Ok-clause-does : goal.returns-in-Ok-clause-does
returns-in-Ok-clause-does g c a =
    let old : Machine = g.E.Events.machine c.args.engine.now in
    let new : Machine = g.E.Events.machine c.write.new.engine in
    does_commit old c.args.transaction.now c.in-Ok.written new (c.in-Ok.ensures.done a (c.requires.bounded a)) (c.write.ensures.keeps a)

pub returns-in-Err-clause-does : goal.returns-in-Err-clause-does
returns-in-Err-clause-does g c a =
    let old : Machine = g.E.Events.machine c.args.engine.now in
    let new : Machine = g.E.Events.machine c.write.new.engine in
    does_not_commit old c.args.transaction.now c.in-Err.refusal new (c.in-Err.ensures.refused a) (c.in-Err.ensures.shown a (c.requires.bounded a)) (c.write.ensures.keeps a)
