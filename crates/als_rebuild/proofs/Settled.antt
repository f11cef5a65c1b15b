-- Devices that were read.
use Rattle.std.proofs.Common.{◌≡◌, ℕ, ◌∙◌}
use Rattle.als_disk.specs.Slot.{Slot, only, IsSettled, SameBlocks}

-- a settled device is settled once it was read
pub settled_read : (old new : ℕ → Slot) → SameBlocks old new → ((k : ℕ) → IsSettled (old k)) → (k : ℕ) → IsSettled (new k)
settled_read old new same settled k = ((settled k).0, same k ∙ (settled k).1)
