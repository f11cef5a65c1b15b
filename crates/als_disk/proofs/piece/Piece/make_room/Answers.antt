use Rattle.std.proofs.Common.{◌≡◌, ◌∙◌, ℕ, List, length, arith, ap, sym}
use Rattle.std.proofs.lemmas.Grind.{common_steps}
use Rattle.als_disk.proofs.MirrorLaws.{content-zeros}
use Rattle.als_disk.proofs.piece.Piece.make_room.Goals as goal

pub returns-in_ok-self-inside-clause-same : goal.returns-in_ok-self-inside-clause-same
returns-in_ok-self-inside-clause-same c =
    let kept : length c.self.inside.blocks.items ≡ 0 = grind (arith, common_steps, c.if-is_empty.ensures) in
    let none : length c.args.self.now ≡ 0 = ap (λ (xs : List (List ℕ)). length xs) (sym c.self.view_is) ∙ kept in
    content-zeros c.args.self.now c.in_ok-self-inside.field-0.items none c.in_ok-self-inside.ensures
