use Rattle.std.proofs.Common.{arith}
use Rattle.als_reopen.proofs.Steps.{end_low}
use Rattle.als_reopen.proofs.joining.has_room.Goals as goal

pub overflow_sub-free : goal.overflow_sub-free
overflow_sub-free g c =
    let facts = c.end-end.ensures.facts in
    omega (arith, c.end-end.ensures.end, end_low c.args.scan.now facts, facts.high, c.requires)

pub returns-then-free-reserve_bytes-clause-full : goal.returns-then-free-reserve_bytes-clause-full
returns-then-free-reserve_bytes-clause-full g c same =
    let s = c.args.scan.now in
    let facts = c.end-end.ensures.facts in
    let low = end_low s facts in
    let reserve = c.reserve_bytes.ensures s.pages s.log c.validator.ensures.known (omega (arith, low, facts.high, facts.few)) in
    omega (arith, c.end-end.ensures.end, low, facts.high, c.requires, reserve, c.if-free-reserve_bytes.true)

pub returns-clause-fits : goal.returns-clause-fits
returns-clause-fits g c same =
    let s = c.args.scan.now in
    let facts = c.end-end.ensures.facts in
    let low = end_low s facts in
    let reserve = c.reserve_bytes.ensures s.pages s.log c.validator.ensures.known (omega (arith, low, facts.high, facts.few)) in
    omega (arith, c.end-end.ensures.end, low, facts.high, c.requires, reserve, c.if-free-reserve_bytes.false)
