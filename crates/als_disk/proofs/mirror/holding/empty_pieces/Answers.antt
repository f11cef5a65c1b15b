use Rattle.std.proofs.Common.{◌≡◌, sym, subst, ap, ◌∙◌, length, List, ℕ, [], arith}
use Rattle.std.proofs.lemmas.Grind.{div_ceil_times}
use Rattle.std.proofs.lemmas.List.{length-replicate}
use Rattle.als_disk.specs.declared.trail.Trail.TheVariants.{Start}
use Rattle.als_disk.specs.Pieces.{HoldNewest}
use Rattle.als_disk.proofs.MirrorLaws.{HoldNewest-empty}
use Rattle.als_disk.proofs.mirror.holding.empty_pieces.Goals as goal

pub returns-clause-enough : goal.returns-clause-enough
returns-clause-enough c =
    let none : List (List ℕ) = [] in
    let all : length c.loop.pieces.items ≡ c.loop.counter = ap (λ (xs : List (List (List ℕ))). length xs) c.loop.invariant ∙ length-replicate c.loop.counter none in
    omega (arith, all, c.loop-test.false, c.div_ceil-count.ensures, (div_ceil_times c.args.blocks 128 (omega arith)).0)

pub returns-clause-zeros : goal.returns-clause-zeros
returns-clause-zeros c = subst (λ (xs : List (List (List ℕ))). HoldNewest 0 xs Start) (sym c.loop.invariant) (HoldNewest-empty c.loop.counter)
