use Rattle.std.proofs.Common.{◌≡◌, length, drop, ap, ◌∙◌}
use Rattle.als_ckpt_codec.specs.Checkpoint.{checkpoint_bytes}
use Rattle.als_ckpt.specs.Regions.{blocks_for}
use Rattle.als_ckpt.proofs.PartLaws.{front_read, blocks_for-most}
use Rattle.als_ckpt.proofs.reading.count_blocks.Goals as goal

pub returns-in_err-len-clause-only : goal.returns-in_err-len-clause-only
returns-in_err-len-clause-only g c pages position x fits parts =
    let disk = c.args.disk.now in
    let front = c.as_slice.ensures ∙ front_read (g.D.BlockDisk.slot disk) c.args.first c.read.new.into x (g.met.D.BlockDisk.gives_candidates disk) (g.met.D.BlockDisk.holds_blocks disk) c.in_ok-read.ensures.ok parts in
    let found = c.in_err-len.ensures.only pages position x (drop 40 c.read.new.into) fits front in
    absurd (cc found)

pub returns-clause-only : goal.returns-clause-only
returns-clause-only g c pages position x fits parts =
    let disk = c.args.disk.now in
    let front = c.as_slice.ensures ∙ front_read (g.D.BlockDisk.slot disk) c.args.first c.read.new.into x (g.met.D.BlockDisk.gives_candidates disk) (g.met.D.BlockDisk.holds_blocks disk) c.in_ok-read.ensures.ok parts in
    let found = c.in_ok-len.ensures.only pages position x (drop 40 c.read.new.into) fits front in
    let same : c.in_ok-len.len ≡ length (checkpoint_bytes x) = cc found in
    c.blocks_for.ensures ∙ ap blocks_for same

pub returns-clause-few : goal.returns-clause-few
returns-clause-few g c = rw c.blocks_for.ensures (blocks_for-most c.in_ok-len.len c.in_ok-len.ensures.few)
