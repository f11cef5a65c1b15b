use Rattle.als_quorum.proofs.Seats.{silent}
use Rattle.als_quorum.proofs.counting.is_first.Goals as goal

pub returns-else-vouches-clause-other : goal.returns-else-vouches-clause-other
returns-else-vouches-clause-other c = λ no own is v.
    absurd (silent c.args.allowed.now.blocks.items c.args.wanted c.args.row.now c.in-Some.own own c.vouches.result c.vouches.ensures c.if-vouches.false c.in-Some.is is v)
