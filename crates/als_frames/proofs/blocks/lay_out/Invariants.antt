use Rattle.std.proofs.Common.{◌≡◌, ◌<◌, ◌+◌, ℕ, List, Contains}
use Rattle.als_disk.specs.Store.{zeros}
use Rattle.als_frames.proofs.blocks.lay_out.Given as goal

abbrev pub invariant-loop-page : goal.invariant-loop-page
invariant-loop-page g l =
    (g.D.BlockDisk.block_count l.disk ≡ g.D.BlockDisk.block_count l.initial.disk)
    × (g.D.BlockDisk.failures l.disk ≡ g.D.BlockDisk.failures l.initial.disk)
    × (g.D.BlockDisk.attempts l.disk ≡ g.D.BlockDisk.attempts l.initial.disk + l.page)
    × ((k : ℕ) → k < l.page → (x : List ℕ) → Contains (g.D.BlockDisk.slot l.disk k).readable x → zeros ≡ x)
