-- What a device over a file keeps in memory, as its callers see it.
use Rattle.std.specs.Prelude.{ℕ, List}
use Rattle.als_disk.specs.declared.mirror.Mirror.{Mirror}
use Rattle.als_disk.specs.Slot.{Slot}
use Rattle.als_disk.specs.Trail.{slot_in, newest_in}

-- how many blocks there are
abbrev pub mirror_blocks : Mirror → ℕ
mirror_blocks mirror = mirror.blocks

-- what stands in each block
abbrev pub mirror_slot : Mirror → ℕ → Slot
mirror_slot mirror = slot_in mirror.trail.value

-- the last content of each block, which a read gives
abbrev pub mirror_newest : Mirror → ℕ → List ℕ
mirror_newest mirror = newest_in mirror.trail.value
