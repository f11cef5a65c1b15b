-- What was acknowledged stays so, so a floor below it stays below it.
use Rattle.std.proofs.Common.{◌≡◌, ◌≤◌, ℕ, arith}
use Rattle.als_store.specs.Stored.{acknowledged}
use Rattle.als_engine.specs.Machine.{Machine, Keeps}

-- nothing was acknowledged for a session yet
pub starts_low : (floor : ℕ) (m : Machine) → floor ≡ 0 → floor ≤ acknowledged m.held
starts_low floor m none = omega (arith, none)

pub stays_low : (floor : ℕ) (old new : Machine) → floor ≤ acknowledged old.held → Keeps old new → floor ≤ acknowledged new.held
stays_low floor old new low keeps = omega (arith, low, keeps.acknowledged)
