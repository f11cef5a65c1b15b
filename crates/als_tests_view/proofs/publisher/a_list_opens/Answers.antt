use Rattle.std.proofs.Common.{List, sym, subst}
use Rattle.als_record.specs.Commits.{Commit}
use Rattle.als_view.specs.Entries.{AreCommits}
use Rattle.als_view.proofs.Reading.{none_are_commits}
use Rattle.als_tests_view.proofs.publisher.a_list_opens.Goals as goal

pub opens-all-requires-clause-commits : goal.opens-all-requires-clause-commits
opens-all-requires-clause-commits g c = subst (λ (l : List Commit). AreCommits l) (sym c.in_ok-publisher.ensures.publisher.0) none_are_commits
