use Rattle.std.proofs.Common.{sym, subst}
use Rattle.als_engine.specs.Machine.{Machine}
use Rattle.als_writer.specs.Changes.{AreBounds}
use Rattle.als_writer.proofs.Doubts.{decides_all, decides_keeps, decided_bounds}
use Rattle.als_writer.proofs.deciding.decide.Goals as goal

pub returns-clause-done : goal.returns-clause-done
returns-clause-done g c a =
    let old : Machine = g.E.Events.machine c.args.engine.now in
    let mid : Machine = g.E.Events.machine c.hold_decision.new.engine in
    let new : Machine = g.E.Events.machine c.finish_decision.new.engine in
    decides_all old mid new c.args.trans c.args.verdict c.in_ok-written.written (c.in_ok-written.ensures.done a) (c.finish_decision.ensures.rest a)

pub returns-clause-keeps : goal.returns-clause-keeps
returns-clause-keeps g c a =
    let old : Machine = g.E.Events.machine c.args.engine.now in
    let mid : Machine = g.E.Events.machine c.hold_decision.new.engine in
    let new : Machine = g.E.Events.machine c.finish_decision.new.engine in
    decides_keeps old mid new c.args.trans c.args.verdict c.in_ok-written.written (c.in_ok-written.ensures.done a) (c.finish_decision.ensures.rest a) (c.hold_decision.ensures.keeps a)

pub returns-clause-bounds : goal.returns-clause-bounds
returns-clause-bounds g c a bounds =
    let old : Machine = g.E.Events.machine c.args.engine.now in
    let mid : Machine = g.E.Events.machine c.hold_decision.new.engine in
    let new : Machine = g.E.Events.machine c.finish_decision.new.engine in
    let d = c.in_ok-written.ensures.done a in
    decided_bounds c.note_decision.new.self old mid new c.args.trans c.args.verdict c.in_ok-written.written d (c.finish_decision.ensures.rest a)
    (c.note_decision.ensures old.held.pages old.held.log mid.held.log c.args.trans bounds d.valid.valid d.lsn d.commits)

pub returns-in_err-written-clause-bounds : goal.returns-in_err-written-clause-bounds
returns-in_err-written-clause-bounds g c a bounds =
    let old : Machine = g.E.Events.machine c.args.engine.now in
    subst (λ (m : Machine). AreBounds c.args.changes.now m.held.pages m.held.log) (sym (c.in_err-written.ensures.same a)) bounds
