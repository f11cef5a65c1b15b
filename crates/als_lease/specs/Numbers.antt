-- The numbers of leases.
use Rattle.std.specs.Prelude.{ℕ, ◌+◌, ◌^◌, nat_lt, if◌then◌else◌, Option, Some, None}

-- the number after this one, none after 2^64 - 1
abbrev pub next_number : Option ℕ → Option ℕ
next_number None = None
next_number (Some number) = if nat_lt (number + 1) (2 ^ 64) then Some (number + 1) else None
