-- How often a device has failed.
use Rattle.std.specs.Prelude.{◌≡◌, ◌<◌, ℕ, Result, MatchResult}

-- the count rises in a call that fails, and in no other
abbrev pub CountsFailure : {T E : Type 0} → Result T E → ℕ → ℕ → Type 0
CountsFailure result before now = MatchResult result (λ _. now ≡ before) (λ _. before < now)
