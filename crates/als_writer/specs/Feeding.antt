-- One record fed.
use Rattle.std.specs.Prelude.{◌≡◌, ◌+◌, ◌<◌, ◌≤◌, ◌^◌, [], ◌∷◌, ◌++◌, Some}
use Rattle.als_record.specs.declared.record.Record.{Record}
use Rattle.als_record.specs.Spelling.{record_len}
use Rattle.als_record.specs.LogText.{end_of}
use Rattle.als_record.specs.Validity.{IsValidLog}
use Rattle.als_record.specs.Tail.{reserve_of}
use Rattle.als_engine.specs.Machine.{Machine}
use Rattle.als_engine.specs.Refusals.{feed_refusal}
use Rattle.als_engine.specs.Feeds.{grown}
use Rattle.als_writer.specs.declared.refusal.Refusal.{Refusal}
use Rattle.als_writer.specs.declared.refusal.Refusal.TheVariants.{State, Memory}

-- no part of a record waits, the record may follow, and the reserve has its room
pub record IsNext (m : Machine) (r : Record) : Type 0 where
  pub partial : m.partial ≡ []
  pub follows : IsValidLog m.held.pages m.held.log → end_of m.held.log < 2 ^ 64 → IsValidLog m.held.pages (m.held.log ++ r ∷ [])
  pub reserved : record_len r + reserve_of (m.held.log ++ r ∷ []) ≤ reserve_of m.held.log

-- the record is held
pub record TakesNext (old : Machine) (r : Record) (new : Machine) : Type 0 where
  pub after : new ≡ record old { held = grown old.held (r ∷ []) }
  pub valid : IsValidLog old.held.pages (old.held.log ++ r ∷ [])

-- a record that may follow is refused: the engine takes nothing, or an allocation failed
abbrev pub NextRefused : Machine → Refusal → Type 0
NextRefused m (State f) = feed_refusal m ≡ Some f
NextRefused m (Memory owed) = Unit {0}
NextRefused m _ = ⊥
