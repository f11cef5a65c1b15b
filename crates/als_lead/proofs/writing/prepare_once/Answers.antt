use Rattle.als_engine.specs.Machine.{Machine}
use Rattle.als_lead.proofs.Doing.{does_prepare, does_not_prepare}
use Rattle.als_lead.proofs.writing.prepare_once.Goals as goal

pub returns-in-Ok-clause-does : goal.returns-in-Ok-clause-does
returns-in-Ok-clause-does g c a =
    let old : Machine = g.E.Events.machine c.args.engine.now in
    let new : Machine = g.E.Events.machine c.prepare.new.engine in
    does_prepare old c.args.transaction.now c.in-Ok.prepared new (c.in-Ok.ensures.done a (c.requires.bounded a)) (c.prepare.ensures.keeps a)

pub returns-in-Err-clause-does : goal.returns-in-Err-clause-does
returns-in-Err-clause-does g c a =
    let old : Machine = g.E.Events.machine c.args.engine.now in
    let new : Machine = g.E.Events.machine c.prepare.new.engine in
    does_not_prepare old c.args.transaction.now c.in-Err.refusal new (c.in-Err.ensures.refused a) (c.in-Err.ensures.shown a (c.requires.bounded a)) (c.prepare.ensures.keeps a)
