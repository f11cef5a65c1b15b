use Rattle.std.proofs.Common.{◌≡◌, ℕ, ◌≤◌, ◌+◌, vec_len, List, Option, None, replicate}
use Rattle.std.specs.Prelude.{vec_capacity}
use Rattle.als_lease.specs.Lease.{Leased}
use Rattle.als_world.proofs.slots.Slots.new.Given as goal

-- so many empty slots are made, and there is room for the others
pub record AreMade (slots : List (Option Leased)) (made count len capacity : ℕ) : Type 0 where
  pub within : made ≤ count
  pub items : slots ≡ replicate made None
  pub len_is : len ≡ made
  pub room : count ≤ capacity

abbrev pub invariant-loop : goal.invariant-loop
invariant-loop l = AreMade l.leases.items l.counter l.count (vec_len l.leases) (vec_capacity l.leases)
