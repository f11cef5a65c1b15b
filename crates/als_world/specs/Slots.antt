-- Worker slots: each has a lease, or is empty.
use Rattle.std.specs.Prelude.{ℕ, Bool, ◌&&◌, nat_lt, is_some, is_none, List, length, replicate, slice_index_or, slice_set, Option, Some, None}
use Rattle.als_lease.specs.Lease.{Leased}

-- so many slots, all of them empty
abbrev pub no_leases : ℕ → List (Option Leased)
no_leases count = replicate count None

-- the lease in a slot; none where the slot is empty or does not exist
abbrev pub lease_at : List (Option Leased) → ℕ → Option Leased
lease_at slots slot = slice_index_or slots slot None

-- the slot has a lease
abbrev pub has_lease : List (Option Leased) → ℕ → Bool
has_lease slots slot = is_some (lease_at slots slot)

-- the slot exists and is empty
abbrev pub has_room : List (Option Leased) → ℕ → Bool
has_room slots slot = nat_lt slot (length slots) && is_none (lease_at slots slot)

-- the slots with this lease in one of them
abbrev pub with_lease : List (Option Leased) → ℕ → Leased → List (Option Leased)
with_lease slots slot lease = slice_set slots slot (Some lease)

-- the slots with one of them emptied
abbrev pub without_lease : List (Option Leased) → ℕ → List (Option Leased)
without_lease slots slot = slice_set slots slot None
