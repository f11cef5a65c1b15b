use Rattle.std.proofs.Common.{◌≡◌}
use Rattle.als_store.specs.Stored.{acknowledged}
use Rattle.als_share.specs.Reaching.{Reaches, ReachesFollowing}
use Rattle.als_service.specs.Sessions.{VouchesAll, GoesOnAll}
use Rattle.als_service.proofs.keeping.follow_sessions.Given as goal

abbrev pub invariant-loop : goal.invariant-loop
invariant-loop g l =
    (goal.iterator-loop g).can_next l.iterator' × (goal.iterator-loop g).is_finite l.iterator'
    × (g.E.Events.alone → Reaches (g.E.Events.machine l.fn.events) (g.E.Events.machine l.held))
    × (g.E.Events.book l.held ≡ g.E.Events.book l.fn.events)
    × (g.E.Events.alone → VouchesAll (acknowledged (g.E.Events.machine l.held).held) (g.L.Primaries.met l.fn.primaries) (g.L.Primaries.met l.primaries))
    × GoesOnAll (g.L.Primaries.met l.fn.primaries) (g.L.Primaries.met l.primaries)
    × (g.E.Events.alone → ReachesFollowing (g.E.Events.machine l.fn.events) (g.E.Events.machine l.held))
