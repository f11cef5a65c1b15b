use Rattle.std.proofs.Common.{refl}
use Rattle.als_engine.specs.Machine.{Machine}
use Rattle.als_writer.proofs.Doubts.{decision_next, decision_taken}
use Rattle.als_writer.proofs.deciding.hold_decision.Goals as goal

pub returns-in-Ok-clause-done : goal.returns-in-Ok-clause-done
returns-in-Ok-clause-done g c a =
    let m : Machine = g.E.Events.machine c.args.engine.now in
    let new : Machine = g.E.Events.machine c.feed_record.new.engine in
    let made = c.in_ok-made.made in
    let d = c.in_ok-made.ensures.planned a in
    decision_taken m c.args.trans c.args.verdict made d _ new (c.in-Ok.ensures.done a (decision_next m c.args.trans c.args.verdict made d)) refl refl (c.status.ensures.tells a).end

pub returns-clause-refused : goal.returns-clause-refused
returns-clause-refused g c a =
    let m : Machine = g.E.Events.machine c.args.engine.now in
    let made = c.in_ok-made.made in
    let d = c.in_ok-made.ensures.planned a in
    c.not_fed.ensures m c.args.trans (c.in-Err.ensures.refused a (decision_next m c.args.trans c.args.verdict made d))

pub returns-clause-same : goal.returns-clause-same
returns-clause-same g c a =
    let m : Machine = g.E.Events.machine c.args.engine.now in
    let made = c.in_ok-made.made in
    c.in-Err.ensures.same a (decision_next m c.args.trans c.args.verdict made (c.in_ok-made.ensures.planned a))
