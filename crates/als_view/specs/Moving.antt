-- Commits that move from the queue in which they wait to the publisher.
use Rattle.std.specs.Prelude.{◌≡◌, ℕ, ◌≤◌, List, ◌++◌, take, drop}
use Rattle.als_record.specs.Commits.{Commit}

-- Of the first `count` commits that wait, so many have moved behind all that the publisher had.
pub record MovesFirst (moved count : ℕ) (all waiting next_all next_waiting : List Commit) : Type 0 where
  pub few : moved ≤ count
  pub all_are : next_all ≡ all ++ take moved waiting
  pub left : next_waiting ≡ drop moved waiting
