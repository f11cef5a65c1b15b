use Rattle.std.proofs.Common.{◌≡◌, ◌∙◌, ◌+◌, ◌*◌, ◌/◌, ◌%◌, ◌<◌, ℕ, List, [], sym, ap, subst, length, slice_set, arith}
use Rattle.std.proofs.lemmas.List.{get_or_default}
use Rattle.als_disk.specs.Pieces.{content_at, piece_in, HoldNewest}
use Rattle.als_disk.proofs.MirrorLaws.{HoldNewest-write, HoldNewest-forgotten, contents-write}
use Rattle.als_disk.proofs.mirror.Mirror.write.Goals as goal

pub invariant_of-self-2-clause-newest : goal.invariant_of-self-2-clause-newest
invariant_of-self-2-clause-newest c =
    let i = c.args.i in
    let m = c.args.self.now in
    let whole : i ≡ i / 128 * 128 + i % 128 = omega arith in
    let below : i % 128 < 128 = omega arith in
    let some : i / 128 < length m.pieces.items = omega (arith, m.enough, c.requires) in
    let room = c.make_room.new.self in
    let same : (a : ℕ) → content_at room a ≡ content_at (piece_in m.pieces.items (i / 128)) a
    = λ a. c.make_room.ensures.same a ∙ ap (λ (piece : List (List ℕ)). content_at piece a) (c.index_mut-piece.ensures.value ∙ get_or_default m.pieces.items (i / 128) _ [] some) in
    let holds = HoldNewest-write m.trail.value c.note_write-2.new.trail.value i c.args.block.now c.note_write-2.ensures.newest m.first m.pieces.items room (i / 128) (i % 128) whole below some c.in_ok-make_room.ensures.ok same m.newest in
    subst (λ (piece : List (List ℕ)). HoldNewest m.first (slice_set m.pieces.items (i / 128) piece) c.note_write-2.new.trail.value) (sym c.set.ensures) holds

pub invariant_of-self-2-clause-contents : goal.invariant_of-self-2-clause-contents
invariant_of-self-2-clause-contents c =
    contents-write c.args.self.now.trail.value c.note_write-2.new.trail.value c.args.i c.args.block.now c.note_write-2.ensures.slot
    (record { len = c.told-block; bytes = c.fits-block }) c.args.self.now.contents

-- a write of a block that is forgotten
pub invariant_of-self-clause-newest : goal.invariant_of-self-clause-newest
invariant_of-self-clause-newest c =
    let m = c.args.self.now in
    HoldNewest-forgotten m.trail.value c.note_write.new.trail.value c.args.i c.args.block.now c.note_write.ensures.newest m.first m.pieces.items c.if-at-self.true m.newest

pub invariant_of-self-clause-contents : goal.invariant_of-self-clause-contents
invariant_of-self-clause-contents c =
    contents-write c.args.self.now.trail.value c.note_write.new.trail.value c.args.i c.args.block.now c.note_write.ensures.slot
    (record { len = c.told-block; bytes = c.fits-block }) c.args.self.now.contents
