-- Why a frame is not taken.
use Rattle.std.specs.Prelude.{◌≡◌, ◌≢◌, ◌<◌, ◌⊎◌, ℕ}
use Rattle.als_ship.specs.declared.fault.Fault.{Fault}
use Rattle.als_ship.specs.declared.fault.Fault.TheVariants.{Gap, OtherEpoch}

-- it is of another epoch, or of the wanted one and begins past what has come
abbrev pub IsRefused : ℕ → ℕ → ℕ → ℕ → Fault → Type 0
IsRefused of epoch offset at fault =
    ((of ≢ epoch) × (fault ≡ OtherEpoch of)) ⊎ ((of ≡ epoch) × (at < offset) × (fault ≡ Gap))
