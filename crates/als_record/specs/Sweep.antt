-- The sweep of a takeover, said of the records that it appends: which of them are compensations, and of which updates.
use Rattle.std.specs.Prelude.{◌≡◌, List, [], ◌∷◌, filter}
use Rattle.als_record.specs.declared.record.Body.{Body}
use Rattle.als_record.specs.declared.record.Body.TheVariants.{Update, Compensation}
use Rattle.als_record.specs.declared.record.Record.{Record}
use Rattle.als_record.specs.Transactions.{is_compensation}

-- the compensations among records, in order
abbrev pub compensations : List Record → List Record
compensations records = filter (λ r. is_compensation r.body) records

-- what undoes an update: its key gets its before image back, and UndoNxtLSN is its PrevLSN
abbrev pub IsUndone : Record → Body → Body → Type 0
IsUndone u (Update key before after) made = made ≡ Compensation u.prev key before
IsUndone u _ made = ⊥

-- each record is the compensation of the update at its place in the other list, for the update's transaction
abbrev pub AreCompensationsOf : List Record → List Record → Type 0
AreCompensationsOf [] [] = Unit {0}
AreCompensationsOf (u ∷ updates) (r ∷ records) = (r.trans ≡ u.trans) × IsUndone u u.body r.body × AreCompensationsOf updates records
AreCompensationsOf _ _ = ⊥
