use Rattle.std.proofs.Common.{◌≡◌}
use Rattle.als_tests_run.proofs.readers.publish.Given as goal

abbrev pub invariant-loop-number : goal.invariant-loop-number
invariant-loop-number g l = g.E.Events.book l.events ≡ g.E.Events.book l.fn.events
