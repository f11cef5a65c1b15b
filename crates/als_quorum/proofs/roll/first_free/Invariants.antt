use Rattle.std.proofs.Common.{◌≡◌, ◌<◌, ℕ, None, get_or}
use Rattle.als_quorum.proofs.roll.first_free.Given as goal

-- each seat before this one has a row
abbrev pub invariant-loop-at : goal.invariant-loop-at
invariant-loop-at l = (k : ℕ) → k < l.at → get_or l.rows k None ≡ None → ⊥
