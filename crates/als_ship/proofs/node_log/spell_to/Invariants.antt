use Rattle.std.proofs.Common.{◌≡◌}
use Rattle.als_ship.proofs.NodeLogs.{Spelled}
use Rattle.als_ship.proofs.node_log.spell_to.Given as goal

abbrev pub invariant-loop : goal.invariant-loop
invariant-loop g l = g.E.Events.alone →
    (g.E.Events.machine l.events ≡ g.E.Events.machine l.fn.events)
    × Spelled (g.E.Events.machine l.fn.events).held.pages (g.E.Events.machine l.fn.events).held.log l.fn.limit.0 l.bytes.items
