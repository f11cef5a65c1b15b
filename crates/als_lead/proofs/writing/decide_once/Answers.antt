use Rattle.als_engine.specs.Machine.{Machine}
use Rattle.als_lead.proofs.Doing.{does_decide, does_not_decide}
use Rattle.als_lead.proofs.writing.decide_once.Goals as goal

pub returns-in-Ok-clause-does : goal.returns-in-Ok-clause-does
returns-in-Ok-clause-does g c a =
    let old : Machine = g.E.Events.machine c.args.engine.now in
    let new : Machine = g.E.Events.machine c.decide.new.engine in
    does_decide old c.args.trans c.args.verdict c.in-Ok.decided new (c.in-Ok.ensures.done a) (c.decide.ensures.keeps a)

pub returns-in-Err-clause-does : goal.returns-in-Err-clause-does
returns-in-Err-clause-does g c a =
    let old : Machine = g.E.Events.machine c.args.engine.now in
    let new : Machine = g.E.Events.machine c.decide.new.engine in
    does_not_decide old c.args.trans c.args.verdict c.in-Err.reason new (c.in-Err.ensures.refused a) (c.in-Err.ensures.same a) (c.decide.ensures.keeps a)
