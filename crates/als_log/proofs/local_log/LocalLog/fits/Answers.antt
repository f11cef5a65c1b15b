use Rattle.std.proofs.Common.{◌≡◌, ◌+◌, length, arith}
use Rattle.std.proofs.lemmas.Bool.{leb-true, le-leb}
use Rattle.als_record.specs.LogText.{end_of}
use Rattle.als_log.specs.History.{records_in}
use Rattle.als_log.proofs.Keeping.{reach}
use Rattle.als_log.proofs.local_log.LocalLog.fits.Goals as goal

pub overflow_sub-free : goal.overflow_sub-free
overflow_sub-free g c =
    let len : c.len.result ≡ length c.self.inside.tail.items = omega (arith, c.len.ensures) in
    omega (arith, reach c.self.invariant, len, c.self.invariant.order.fits, c.blocks-2.ensures)

pub returns-then-len-free : goal.returns-then-len-free
returns-then-len-free g c =
    let len : c.len.result ≡ length c.self.inside.tail.items = omega (arith, c.len.ensures) in
    let end : c.self.inside.base + c.len.result ≡ end_of (records_in c.self.inside.history) = omega (arith, reach c.self.invariant, len) in
    let within = c.self.invariant.order.fits in
    rw (← c.self.view_is) (λ t. omega (arith, leb-true _ _ t, end, within, c.blocks-2.ensures, c.if-len-free.true), λ f. le-leb _ _ (omega (arith, f, end, within, c.blocks-2.ensures, c.if-len-free.true)))

pub returns-else-len-free : goal.returns-else-len-free
returns-else-len-free g c =
    let len : c.len.result ≡ length c.self.inside.tail.items = omega (arith, c.len.ensures) in
    let end : c.self.inside.base + c.len.result ≡ end_of (records_in c.self.inside.history) = omega (arith, reach c.self.invariant, len) in
    let within = c.self.invariant.order.fits in
    rw (← c.self.view_is) (λ t. absurd (omega (arith, leb-true _ _ t, c.if-len-free.false)), λ f. le-leb _ _ (omega (arith, f, end, within, c.blocks-2.ensures)))
