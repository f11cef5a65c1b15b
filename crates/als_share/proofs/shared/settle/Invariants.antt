use Rattle.std.proofs.Common.{◌≡◌, ◌+◌, length}
use Rattle.std.specs.List.{fold}
use Rattle.als_share.specs.Ledgers.{plus}
use Rattle.als_share.proofs.shared.settle.Given as goal

abbrev pub invariant-loop-share : goal.invariant-loop-share
invariant-loop-share g l =
    (l.all.parts ≡ length l.yielded + 1) × (l.all.tally ≡ fold plus l.fn.first l.yielded)
