use Rattle.std.proofs.Common.{Err}
use Rattle.als_ship.proofs.LogForcing.{has_written_text, has_written_more, log_write_same, same_trans}
use Rattle.als_ship.proofs.forcing.write_log.Goals as goal

pub returns-in-Err-NothingToDo-clause-same : goal.returns-in-Err-NothingToDo-clause-same
returns-in-Err-NothingToDo-clause-same g c = λ a.
    let old = g.E.Events.machine c.args.events.now in
    let mid = g.E.Events.machine c.loop.events in
    let new = g.E.Events.machine c.log_write.new.self in
    same_trans old mid new (has_written_text old mid (c.loop.invariant a)) (log_write_same mid new (Err c.in-Err-NothingToDo.field-0) (c.in-Err-NothingToDo.ensures.writes a))

pub returns-in-Err-clause-same : goal.returns-in-Err-clause-same
returns-in-Err-clause-same g c = λ a.
    let old = g.E.Events.machine c.args.events.now in
    let mid = g.E.Events.machine c.loop.events in
    let new = g.E.Events.machine c.log_write.new.self in
    same_trans old mid new (has_written_text old mid (c.loop.invariant a)) (log_write_same mid new (Err c.in-Err.fault) (c.in-Err.ensures.writes a))

pub loop-preserved : goal.loop-preserved
loop-preserved g c = λ a. has_written_more (g.E.Events.machine c.args.events.now) (g.E.Events.machine c.loop.events) (g.E.Events.machine c.log_write.new.self) (c.loop.invariant a) (c.in-Ok.ensures.writes a)

pub returns-clause-same : goal.returns-clause-same
returns-clause-same g c = λ a. has_written_text (g.E.Events.machine c.args.events.now) (g.E.Events.machine c.loop.events) (c.loop.invariant a)
