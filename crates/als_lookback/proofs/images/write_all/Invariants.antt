use Rattle.std.proofs.Common.{◌≡◌, ◌+◌, fold, length}
use Rattle.als_commits.specs.Left.{writes_left}
use Rattle.als_view.specs.Images.{written}
use Rattle.als_lookback.proofs.images.write_all.Given as goal

abbrev pub invariant-loop : goal.invariant-loop
invariant-loop l =
    (fold written l.images.items (writes_left l.left) ≡ fold written l.fn.images.items l.writes)
    × (length (writes_left l.left) + l.counter ≡ length l.writes)
