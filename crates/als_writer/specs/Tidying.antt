-- What is owed to a log, written.
use Rattle.std.specs.Prelude.{◌≡◌, ℕ, ◌⊎◌, true, List, [], ◌∷◌, take}
use Rattle.als_record.specs.declared.record.Record.{Record}
use Rattle.als_record.specs.Commits.{commits_of}
use Rattle.als_record.specs.Tail.{tail_of, is_undone}
use Rattle.als_engine.specs.Machine.{Machine}
use Rattle.als_engine.specs.Events.{resynced}
use Rattle.als_engine.specs.Feeds.{grown}

-- the machine with the first records of what is owed; no part of a record waits, and no fault is kept
abbrev pub tidied_to : ℕ → Machine → Machine
tidied_to n m = record (resynced m) { held = grown m.held (take n (tail_of m.held.log)) }

-- all that was owed is in the log, and nothing is owed any more; no commit came
pub record Tidied (old new : Machine) : Type 0 where
  pub after : new ≡ record (resynced old) { held = grown old.held (tail_of old.held.log) }
  pub commits : commits_of new.held.log ≡ commits_of old.held.log
  pub undone : is_undone new.held.log ≡ true

-- some of it is, or nothing has changed
pub record NotTidied (old new : Machine) : Type 0 where
  pub n : ℕ
  pub front : (new ≡ old) ⊎ (new ≡ tidied_to n old)
  pub commits : commits_of new.held.log ≡ commits_of old.held.log

-- the record is the first that is owed to the log, behind which no part of a record waits
pub record IsOwedTo (m : Machine) (r : Record) : Type 0 where
  pub partial : m.partial ≡ []
  pub rest : List Record
  pub first : tail_of m.held.log ≡ r ∷ rest

-- the record is held, and no commit came
pub record TakesOwed (old : Machine) (r : Record) (new : Machine) : Type 0 where
  pub after : new ≡ record old { held = grown old.held (r ∷ []) }
  pub commits : commits_of new.held.log ≡ commits_of old.held.log
