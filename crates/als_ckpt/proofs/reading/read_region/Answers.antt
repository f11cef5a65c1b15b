use Rattle.std.proofs.Common.{List, ℕ, sym, subst}
use Rattle.std.proofs.lemmas.Result.{err_from_is_err_and}
use Rattle.als_ckpt_codec.specs.Checkpoint.{BeginsWith}
use Rattle.als_ckpt.proofs.PartLaws.{parts-first, settled_same, StandIn-same, holds_found, begins_held}
use Rattle.als_ckpt.proofs.reading.read_region.Goals as goal

pub returns-in_err-count-clause-only : goal.returns-in_err-count-clause-only
returns-in_err-count-clause-only g c x fits holds =
    let parts = parts-first (g.D.BlockDisk.slot c.args.disk.now) c.args.region c.first_block-first.result x c.first_block-first.ensures holds in
    let found = c.in_err-count.ensures.only c.args.pages c.args.position.0 x fits parts in
    let p = err_from_is_err_and c.from_residual.result c.from_residual.ensures.1 in rw (p.1, p.2) found

pub read_blocks-requires-clause-settled : goal.read_blocks-requires-clause-settled
read_blocks-requires-clause-settled g c = settled_same (g.D.BlockDisk.slot c.args.disk.now) (g.D.BlockDisk.slot c.count_blocks.new.disk) c.count_blocks.ensures.same c.requires.settled

pub returns-in_err-checkpoint-clause-only : goal.returns-in_err-checkpoint-clause-only
returns-in_err-checkpoint-clause-only g c x fits holds =
    let slots = g.D.BlockDisk.slot c.args.disk.now in
    let first = c.first_block-first.result in
    let parts = parts-first slots c.args.region first x c.first_block-first.ensures holds in
    let count = c.in_ok-count.ensures.only c.args.pages c.args.position.0 x fits parts in
    let stands = StandIn-same slots (g.D.BlockDisk.slot c.count_blocks.new.disk) first c.in_ok-count.count c.in_ok-bytes.bytes.items c.count_blocks.ensures.same c.in_ok-bytes.ensures.ok in
    let begins = begins_held slots c.args.region first c.in_ok-count.count c.in_ok-bytes.bytes.items x c.first_block-first.ensures stands count holds in
    let found = c.in_err-checkpoint.ensures.only x fits (subst (λ (xs : List ℕ). BeginsWith xs x) (sym c.as_mut_slice.ensures.value) begins) in
    let p = err_from_is_err_and c.from_residual-in_err-checkpoint.result c.from_residual-in_err-checkpoint.ensures.1 in
    rw (p.1, p.2, found) (λ never. absurd (cc never))

pub returns-clause-found : goal.returns-clause-found
returns-clause-found g c =
    let slots = g.D.BlockDisk.slot c.args.disk.now in
    let first = c.first_block-first.result in
    let found = c.in_ok-checkpoint.checkpoint in
    let stands = StandIn-same slots (g.D.BlockDisk.slot c.count_blocks.new.disk) first c.in_ok-count.count c.in_ok-bytes.bytes.items c.count_blocks.ensures.same c.in_ok-bytes.ensures.ok in
    let begins = subst (λ (xs : List ℕ). BeginsWith xs found) c.as_mut_slice.ensures.value c.in_ok-checkpoint.ensures.found.1 in (
      c.in_ok-checkpoint.ensures.found.0,
      holds_found slots c.args.region first c.in_ok-count.count c.in_ok-bytes.bytes.items found c.first_block-first.ensures stands c.in_ok-count.ensures.few.1 begins,
    )

pub returns-clause-only : goal.returns-clause-only
returns-clause-only g c x fits holds =
    let slots = g.D.BlockDisk.slot c.args.disk.now in
    let first = c.first_block-first.result in
    let parts = parts-first slots c.args.region first x c.first_block-first.ensures holds in
    let count = c.in_ok-count.ensures.only c.args.pages c.args.position.0 x fits parts in
    let stands = StandIn-same slots (g.D.BlockDisk.slot c.count_blocks.new.disk) first c.in_ok-count.count c.in_ok-bytes.bytes.items c.count_blocks.ensures.same c.in_ok-bytes.ensures.ok in
    let begins = begins_held slots c.args.region first c.in_ok-count.count c.in_ok-bytes.bytes.items x c.first_block-first.ensures stands count holds in
    c.in_ok-checkpoint.ensures.only x fits (subst (λ (xs : List ℕ). BeginsWith xs x) (sym c.as_mut_slice.ensures.value) begins)
