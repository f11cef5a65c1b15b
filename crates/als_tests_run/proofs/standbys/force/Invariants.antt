use Rattle.std.proofs.Common.{◌≡◌}
use Rattle.als_tests_run.proofs.standbys.force.Given as goal

abbrev pub invariant-loop : goal.invariant-loop
invariant-loop g l = g.E.Events.book l.events ≡ g.E.Events.book l.fn.events
