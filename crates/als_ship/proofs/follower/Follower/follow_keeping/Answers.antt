use Rattle.als_ship.proofs.Sessions.{keeps_given_up}
use Rattle.als_ship.proofs.follower.Follower.follow_keeping.Goals as goal

pub returns-in-Err-clause-front : goal.returns-in-Err-clause-front
returns-in-Err-clause-front g c =
    let kept = c.session.ensures.front in
    (kept.0, keeps_given_up g.E.Events.alone (g.R.Read.remaining c.args.reader.now) kept.0 (g.E.Events.machine c.args.events.now) (g.E.Events.machine c.session.new.events) (g.E.Events.machine c.give_up.new.events) c.in-Err.fault kept.1 c.give_up.ensures)
