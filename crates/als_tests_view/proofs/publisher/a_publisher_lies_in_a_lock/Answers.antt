use Rattle.std.proofs.Common.{List, sym, subst}
use Rattle.als_record.specs.Commits.{Commit}
use Rattle.als_view.specs.Entries.{AreCommits}
use Rattle.als_view.proofs.Reading.{none_are_commits}
use Rattle.als_tests_view.proofs.publisher.a_publisher_lies_in_a_lock.Goals as goal

pub start-done-requires-after_bounds : goal.start-done-requires-after_bounds
start-done-requires-after_bounds g c bounds = subst (λ (l : List Commit). AreCommits l) (sym c.in_ok-publisher.ensures.publisher.0) none_are_commits
