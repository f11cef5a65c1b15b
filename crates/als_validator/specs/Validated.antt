-- The validator, and the log of which it knows what the causes ask.
use Rattle.std.specs.Prelude.{◌≡◌, ℕ, Bool, true, ◌&&◌, nat_lt, List, Option, Some, None, is_some, vec_len, vec_capacity}
use Rattle.als_record.specs.declared.record.Record.{Record}
use Rattle.als_record.specs.Transactions.{greatest_trans}
use Rattle.als_record.specs.Validity.{open_checkpoint}
use Rattle.als_analysis.specs.Noted.{IsTableOf}
use Rattle.als_validator.specs.declared.judging.Judging.{Judging}
use Rattle.als_validator.specs.declared.validator.Validator.{Validator}
use Rattle.als_validator.specs.Keys.{AreKeysOf}
use Rattle.als_validator.specs.Lists.{AreSurvivorsOf}
use Rattle.als_validator.specs.Seen.{AreCommitted}

-- what judging alone needs of a log of a database with this many pages
pub record IsJudgingOf (pages : ℕ) (j : Judging) (log : List Record) : Type 0 where
  pub survivors : AreSurvivorsOf j.survivors log
  pub keys : AreKeysOf j.keys.items pages log
  pub committed : AreCommitted j.committed.items log

-- so long as records are judged, what that needs is kept
abbrev pub IsJudgedBy : ℕ → Option Judging → List Record → Type 0
IsJudgedBy pages o log = (j : Judging) → o ≡ Some j → IsJudgingOf pages j log

-- Whether the validator judges: until its log is sealed.
abbrev pub judges : Validator → Bool
judges v = is_some v.judging

-- The validator of a log of a database with this many pages. As long as it judges it has what judging needs.
pub record IsValidatorOf (pages : ℕ) (v : Validator) (log : List Record) : Type 0 where
  pub table : IsTableOf v.table log
  pub judging : IsJudgedBy pages v.judging log
  pub greatest : v.greatest.0 ≡ greatest_trans log
  pub begun : v.begun.0 ≡ open_checkpoint log

-- whether what judging needs of one more record can be kept without memory
abbrev pub may_note : Judging → Bool
may_note j = j.survivors.has_room && nat_lt (vec_len j.committed) (vec_capacity j.committed)

abbrev pub MayNote : Judging → Type 0
MayNote j = may_note j ≡ true

-- whether there is room for one more record: a sealed log needs none
abbrev pub room_in : Option Judging → Bool
room_in None = true
room_in (Some j) = may_note j

-- whether one more record can be admitted without memory
abbrev pub has_room : Validator → Bool
has_room v = room_in v.judging

abbrev pub HasRoom : Validator → Type 0
HasRoom v = has_room v ≡ true
