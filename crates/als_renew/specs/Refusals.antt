-- Why no log is begun.
use Rattle.std.specs.Prelude.{◌≡◌, ◌⊎◌, ℕ, ◌≤◌, List, length, Option, true}
use Rattle.als_record.specs.declared.record.Record.{Record}
use Rattle.als_record.specs.Transactions.{is_in_doubt, in_doubt}
use Rattle.als_lookback.specs.declared.fault.Fault.TheVariants.{Memory, Stream}
use Rattle.als_lookback.specs.declared.until.Until.TheVariants.{End}
use Rattle.als_lookback.specs.Fronts.{IsFrontOf}
use Rattle.als_lookback.specs.Refusals.{RefusesLook}
use Rattle.als_renew.specs.declared.fault.Fault.{Fault}
use Rattle.als_renew.specs.declared.fault.Fault.TheVariants.{Look, InDoubt}

-- the output fails, or an allocation
abbrev pub IsOfOutput : Fault → Type 0
IsOfOutput fault = (fault ≡ Look Memory) ⊎ (fault ≡ Look Stream)

-- The fault names a transaction that is in doubt in this log, and that its next one can't carry on: its number is not above the page count, or
-- as many are in doubt as may be open at once.
abbrev pub IsDoubt : ℕ → List Record → Fault → Type 0
IsDoubt pages log (Look fault) = ⊥
IsDoubt pages log (InDoubt trans) = (is_in_doubt log trans.0 ≡ true) × ((trans.0 ≤ pages) ⊎ (256 ≤ length (in_doubt log)))

-- a text, where it is known, is that of a valid log, and the transaction that the fault names can't be carried on from it
pub record HasDoubt (text : Option (List ℕ)) (fault : Fault) : Type 0 where
  pub pages : ℕ
  pub held : List Record
  pub whole : IsFrontOf text End pages held
  pub doubt : IsDoubt pages held fault

-- the old log is not read to its end; a transaction of it is in doubt and can't be carried on; or the output or an allocation failed
abbrev pub RefusesBegin : Option (List ℕ) → Fault → Type 0
RefusesBegin text (Look fault) = RefusesLook text End fault
RefusesBegin text (InDoubt trans) = HasDoubt text (InDoubt trans)
