-- A device in memory, as its callers see it.
use Rattle.std.specs.Prelude.{ℕ, List}
use Rattle.als_disk.specs.declared.mem_disk.MemDisk.{MemDisk}
use Rattle.als_disk.specs.Count.{number}
use Rattle.als_disk.specs.Slot.{Slot}
use Rattle.als_disk.specs.Store.{slot_of, newest_of}

-- how many blocks there are
abbrev pub mem_blocks : MemDisk → ℕ
mem_blocks disk = disk.blocks

-- what stands in each block
abbrev pub mem_slot : MemDisk → ℕ → Slot
mem_slot disk = slot_of disk.synced disk.unsynced

-- the newest content of each block, which a read gives
abbrev pub mem_newest : MemDisk → ℕ → List ℕ
mem_newest disk = newest_of disk.synced disk.unsynced

-- how often a write found no memory
abbrev pub mem_failures : MemDisk → ℕ
mem_failures disk = number disk.failed

-- how often a write or a sync was called for
abbrev pub mem_attempts : MemDisk → ℕ
mem_attempts disk = number disk.attempted
