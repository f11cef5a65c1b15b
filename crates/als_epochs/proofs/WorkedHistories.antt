-- Worked histories: what the definitions compute for them.
use Rattle.std.proofs.Common.{◌≡◌, [], ◌∷◌, Ok, Err, refl}
use Rattle.als_epochs.specs.declared.fault.Fault.TheVariants.{OtherEpoch, Diverged}
use Rattle.als_epochs.specs.declared.step.Step.TheVariants.{Stay, Adopt}
use Rattle.als_epochs.specs.Histories.{last_seal, seals_bytes}
use Rattle.als_epochs.specs.Judging.{judged}

-- a node without takeovers whose log ends at 108 is offered the takeover that was sealed at 100, and the one at 108
sealed_below : judged [] (100 ∷ []) 108 ≡ Err (Diverged (record { 0 = 100 }))
unfolding judged
sealed_below = refl

sealed_at : judged [] (108 ∷ []) 108 ≡ Ok Adopt
unfolding judged
sealed_at = refl

-- what is behind the own seals counts, and the first of it alone
second : judged (108 ∷ []) (108 ∷ 130 ∷ []) 108 ≡ Ok Adopt
unfolding judged
second = refl

first_of_two : judged (108 ∷ []) (108 ∷ 110 ∷ 200 ∷ []) 111 ≡ Err (Diverged (record { 0 = 110 }))
unfolding judged
first_of_two = refl

-- another takeover: the fault has the epoch of the offered history
other : judged (108 ∷ []) (120 ∷ 130 ∷ []) 108 ≡ Err (OtherEpoch 2)
unfolding judged
other = refl

-- fewer takeovers
shorter : judged (108 ∷ 130 ∷ []) (108 ∷ []) 108 ≡ Err (OtherEpoch 1)
unfolding judged
shorter = refl

-- the same, wherever the log ends
same : judged (108 ∷ 130 ∷ []) (108 ∷ 130 ∷ []) 500 ≡ Ok Stay
unfolding judged
same = refl

-- two takeovers at one seal are not told apart
one_seal : judged (108 ∷ []) (108 ∷ 108 ∷ []) 108 ≡ Ok Adopt
unfolding judged
one_seal = refl

-- the last seal, and the bytes
last : last_seal (108 ∷ 130 ∷ []) ≡ 130
last = refl

bytes : seals_bytes (108 ∷ 258 ∷ []) ≡ 0 ∷ 0 ∷ 0 ∷ 0 ∷ 0 ∷ 0 ∷ 0 ∷ 108 ∷ 0 ∷ 0 ∷ 0 ∷ 0 ∷ 0 ∷ 0 ∷ 1 ∷ 2 ∷ []
bytes = refl
