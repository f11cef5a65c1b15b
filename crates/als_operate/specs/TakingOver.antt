-- What a takeover makes of a standby.
use Rattle.std.specs.Prelude.{◌≡◌, ◌≤◌, true, List, [], ◌++◌}
use Rattle.als_record.specs.declared.record.Record.{Record}
use Rattle.als_record.specs.LogText.{end_of}
use Rattle.als_record.specs.Tail.{tail_of, is_undone}
use Rattle.als_store.specs.Stored.{acknowledged}
use Rattle.als_engine.specs.declared.status.State.TheVariants.{Primary}
use Rattle.als_engine.specs.Machine.{Machine, state_of}
use Rattle.als_drive.specs.Driving.{IsDrained}

-- the log goes on along its own tail: what was appended, and then what is left of the tail, are the tail that it had
pub record GoesAlong (old new : Machine) : Type 0 where
  pub more : List Record
  pub log : new.held.log ≡ old.held.log ++ more
  pub tail : more ++ tail_of new.held.log ≡ tail_of old.held.log

-- the log is acknowledged to its end
abbrev pub IsStable : Machine → Type 0
IsStable m = end_of m.held.log ≤ acknowledged m.held

-- the control block is synced: a crash leaves its newest state
abbrev pub IsSynced : Machine → Type 0
IsSynced m = m.held.since ≡ []

-- It is a primary, whatever a crash leaves. Its log is the one that it came in with and the whole tail of that, and nothing else: no
-- transaction in doubt was decided. All of it is acknowledged and redone.
pub record TakesOver (old new : Machine) : Type 0 where
  pub primary : state_of new ≡ Primary
  pub synced : IsSynced new
  pub log : new.held.log ≡ old.held.log ++ tail_of old.held.log
  pub undone : is_undone new.held.log ≡ true
  pub stable : IsStable new
  pub drained : IsDrained new
