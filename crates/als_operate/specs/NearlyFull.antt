-- When a log that has little room left is remarked on.
use Rattle.std.specs.Prelude.{ℕ, Bool, ◌-◌, ◌/◌, nat_le, nat_eq, ◌&&◌, not, Option, Some, None, true}

-- nine tenths of the device are used
abbrev pub is_nearly_full : ℕ → ℕ → Bool
is_nearly_full end capacity = nat_le (capacity - capacity / 10) end

-- no remark was made in this hour
abbrev pub is_new : Option ℕ → ℕ → Bool
is_new None hour = true
is_new (Some told) hour = not (nat_eq told hour)

-- a remark is due
abbrev pub is_remarked : Option ℕ → ℕ → ℕ → ℕ → Bool
is_remarked told end capacity hour = is_nearly_full end capacity && is_new told hour
