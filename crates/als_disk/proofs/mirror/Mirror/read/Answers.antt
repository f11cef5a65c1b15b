use Rattle.std.proofs.Common.{◌∙◌, ◌≡◌, ◌+◌, ◌*◌, ◌/◌, ◌%◌, ◌<◌, ℕ, List, [], ap, arith, length}
use Rattle.std.proofs.lemmas.List.{get_or_default}
use Rattle.als_disk.specs.Pieces.{content_at}
use Rattle.als_disk.specs.Trail.{newest_in}
use Rattle.als_disk.proofs.mirror.Mirror.read.Goals as goal

pub returns : goal.returns
returns c =
    let i = c.args.i in
    let m = c.args.self.now in
    let whole : i / 128 * 128 + i % 128 ≡ i = omega arith in
    let below : i % 128 < 128 = omega arith in
    let some : i / 128 < length m.pieces.items = omega (arith, m.enough, c.requires) in
    c.block.ensures
    ∙ ap (λ (piece : List (List ℕ)). content_at piece (i % 128)) (c.index.ensures ∙ get_or_default m.pieces.items (i / 128) c.index.result.now [] some)
    ∙ m.newest (i / 128) (i % 128) c.if-at-self.false below
    ∙ ap (λ (n : ℕ). newest_in m.trail.value n) whole
