-- Whether a node goes on with the history that another one offers.
use Rattle.std.specs.Prelude.{◌≡◌, ℕ, ◌≤◌, ◌<◌, List, ◌∷◌, ◌++◌, length, nat_lt, if◌then◌else◌, Option, None, Some, Result, Ok, Err}
use Rattle.als_epochs.specs.declared.fault.Fault.{Fault}
use Rattle.als_epochs.specs.declared.fault.Fault.TheVariants.{OtherEpoch, Diverged}
use Rattle.als_epochs.specs.declared.step.Step.{Step}
use Rattle.als_epochs.specs.declared.step.Step.TheVariants.{Stay, Adopt}
use Rattle.als_epochs.specs.Histories.{is_front, next_seal, GoesOn}

-- the same of a history that is a front of the offered one, by the offered seal behind it: a log that ends above that seal has
-- bytes of the epoch that the takeover ended
abbrev pub judged_next : Option ℕ → ℕ → Result Step Fault
judged_next None end = Ok Stay
judged_next (Some seal) end = if nat_lt seal end then Err (Diverged (record { 0 = seal })) else Ok Adopt

-- the judgement on an offered history, for a log that ends there
unfoldable pub judged : List ℕ → List ℕ → ℕ → Result Step Fault
judged own offered end = if is_front own offered then judged_next (next_seal own offered) end else Err (OtherEpoch (length offered))

-- The same in words: the histories are one; or the offered one goes on from the own one, with a seal at which or below which the
-- log ends; or with a seal that the log is past; or it does not go on from it.
abbrev pub Judges : List ℕ → List ℕ → ℕ → Result Step Fault → Type 0
Judges own offered end (Ok Stay) = offered ≡ own
Judges own offered end (Ok Adopt) = (seal : ℕ) × (rest : List ℕ) × (offered ≡ own ++ seal ∷ rest) × (end ≤ seal)
Judges own offered end (Err (Diverged seal)) = (rest : List ℕ) × (offered ≡ own ++ seal.0 ∷ rest) × (seal.0 < end)
Judges own offered end (Err (OtherEpoch epoch)) = (GoesOn own offered → ⊥) × (epoch ≡ length offered)
