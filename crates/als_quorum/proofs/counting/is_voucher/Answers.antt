use Rattle.als_quorum.proofs.Seats.{silent, never}
use Rattle.als_quorum.proofs.counting.is_voucher.Goals as goal

pub returns-else-vouches : goal.returns-else-vouches
returns-else-vouches c = (
  (λ yes. absurd (never c.vouches.result c.if-vouches.false yes)),
  λ w. absurd (silent c.args.allowed.now.blocks.items c.args.wanted c.args.row.now c.in-Some.own w.0 c.vouches.result c.vouches.ensures c.if-vouches.false c.in-Some.is w.1 w.2),
)
