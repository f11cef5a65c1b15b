use Rattle.als_ship.proofs.Sessions.{keeps_nothing, keeps_both}
use Rattle.als_operate.proofs.following.follow.Goals as goal

pub returns-in-Ok-clause-front : goal.returns-in-Ok-clause-front
returns-in-Ok-clause-front g c =
    let alone = g.E.Events.alone in
    let before = g.I.Read.remaining c.args.reader.now in
    let old = g.E.Events.machine c.args.events.now in
    let mid = g.E.Events.machine c.follow_keeping-followed.new.events in
    let new = g.E.Events.machine c.settle-settled.new.events in
    let kept = c.follow_keeping-followed.ensures.front in
    (kept.0, keeps_both alone before kept.0 kept.0 old mid new kept.1 (keeps_nothing alone kept.0 mid new c.settle-settled.ensures.same))

pub returns-in-Err-clause-front : goal.returns-in-Err-clause-front
returns-in-Err-clause-front g c =
    let alone = g.E.Events.alone in
    let before = g.I.Read.remaining c.args.reader.now in
    let old = g.E.Events.machine c.args.events.now in
    let mid = g.E.Events.machine c.follow_keeping-followed.new.events in
    let new = g.E.Events.machine c.settle-settled.new.events in
    let kept = c.follow_keeping-followed.ensures.front in
    (kept.0, keeps_both alone before kept.0 kept.0 old mid new kept.1 (keeps_nothing alone kept.0 mid new c.settle-settled.ensures.same))
