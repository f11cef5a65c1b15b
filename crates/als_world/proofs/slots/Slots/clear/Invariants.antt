use Rattle.std.proofs.Common.{◌≡◌, ℕ, ◌≤◌, List, ◌++◌, length, drop, Option, None, replicate}
use Rattle.als_lease.specs.Lease.{Leased}
use Rattle.als_world.proofs.slots.Slots.clear.Given as goal

-- the slots up to one are empty, the others as they were
pub record AreEmptied (old now : List (Option Leased)) (slot : ℕ) : Type 0 where
  pub within : slot ≤ length old
  pub items : now ≡ replicate slot None ++ drop slot old

abbrev pub invariant-loop-slot : goal.invariant-loop-slot
invariant-loop-slot l = AreEmptied l.initial.self-inside.leases.items l.self-inside.leases.items l.slot
