use Rattle.std.proofs.Common.{◌≡◌, ℕ, ◌<◌, length, get_or, None}
use Rattle.als_validator.specs.declared.key_state.KeyState.{KeyState}
use Rattle.als_validator.proofs.keys.unwritten_keys.Given as goal

abbrev pub invariant-loop : goal.invariant-loop
invariant-loop l = (length l.keys.items ≡ l.counter) × ((k : ℕ) (d : KeyState) → k < length l.keys.items → ((get_or l.keys.items k d).image ≡ None) × ((get_or l.keys.items k d).count ≡ 0))
