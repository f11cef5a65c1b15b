use Rattle.std.proofs.Common.{◌≡◌, ◌*◌, length, arith}
use Rattle.als_view.proofs.Folding.{images-none}
use Rattle.als_lookback.proofs.images.unwritten.Goals as goal

pub returns : goal.returns
returns c =
    let n : length c.loop.images.items ≡ c.args.pages * 15 = omega arith in
    images-none c.loop.images.items c.args.pages n c.loop.invariant.1
