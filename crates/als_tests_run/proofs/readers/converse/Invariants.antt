use Rattle.std.proofs.Common.{◌≡◌}
use Rattle.als_view.specs.Views.{book_of}
use Rattle.als_tests_run.proofs.readers.converse.Given as goal

abbrev pub invariant-loop : goal.invariant-loop
invariant-loop g l = book_of l.reader ≡ g.E.Events.book l.events
