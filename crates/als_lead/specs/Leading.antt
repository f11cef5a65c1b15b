-- What a leader does: each work that it takes is answered once, and each answer is true of the machine at the end.
use Rattle.std.specs.Prelude.{◌≡◌, List, ◌++◌}
use Rattle.std.specs.List.{AllByRecursion}
use Rattle.als_record.specs.Commits.{Commit, commits_of}
use Rattle.als_engine.specs.Machine.{Machine}
use Rattle.als_lead.specs.declared.asked.Asked.{Asked}
use Rattle.als_lead.specs.declared.told.Told.{Told}
use Rattle.als_lead.specs.Going.{Grows}
use Rattle.als_lead.specs.Answers.{IsTrueOf, Adds, asked_of}

-- the log's commits are the old ones and those that the answers add, in their order
pub record GoesOnBy (old new : Machine) (told : List Told) : Type 0 where
  pub added : List Commit
  pub commits : commits_of new.held.log ≡ commits_of old.held.log ++ added
  pub adds : Adds new.held.log told added

-- What was answered: each work that was taken, once, in the order in which it was taken, each to its own seat. The log's commits are the old
-- ones and those answered, in that order, and each answer is true of the machine at the end.
pub record Leads (alone : Type 0) (old new : Machine) (taken taken_now : List Asked) (told told_now : List Told) : Type 0 where
  pub more : List Told
  pub answered : told_now ≡ told ++ more
  pub once : taken_now ≡ taken ++ asked_of more
  pub commits : alone → GoesOnBy old new more
  pub answers : alone → AllByRecursion (IsTrueOf new) more
  pub grows : alone → Grows old new

-- what was told is what was told before, and behind it answers of which each is such
pub record AllTold (IsSuch : Told → Type 0) (told told_now : List Told) : Type 0 where
  pub more : List Told
  pub answered : told_now ≡ told ++ more
  pub each : AllByRecursion IsSuch more
