use Rattle.std.proofs.Common.{◌≡◌, ◌+◌, ◌-◌, ◌*◌, ◌/◌, ◌<◌, ◌≤◌, length, min, refl, ap, ◌∙◌, arith}
use Rattle.std.specs.Prelude.{slice_index}
use Rattle.std.proofs.lemmas.Result.{err_from_is_err_and}
use Rattle.als_record.specs.LogText.{end_of, log_text}
use Rattle.als_log.specs.History.{records_in}
use Rattle.als_log.specs.Texts.{HasText}
use Rattle.als_log.proofs.Keeping.{reach, low_block, block_text, held-write, settled-but}
use Rattle.als_log.proofs.local_log.LocalLog.write_block.Goals as goal

pub returns-then-self-end-clause-err : goal.returns-then-self-end-clause-err
returns-then-self-end-clause-err g c =
    let len : c.len.result ≡ length c.self.inside.tail.items = omega (arith, c.len.ensures) in
    rw (← c.self.view_is) (omega (arith, reach c.self.invariant, len, c.if-self-end.true), refl)

pub block_at-block-requires : goal.block_at-block-requires
block_at-block-requires g c =
    let len : length c.as_slice.result.now ≡ length c.self.inside.tail.items = ap length c.as_slice.ensures.value in
    omega (arith, reach c.self.invariant, low_block c.self.invariant, len, c.self.invariant.order.within)

pub write-requires : goal.write-requires
write-requires g c =
    let len : c.len.result ≡ length c.self.inside.tail.items = omega (arith, c.len.ensures) in
    omega (arith, reach c.self.invariant, len, c.if-self-end.false, c.self.invariant.order.within, c.self.invariant.order.fits)

pub invariant_of-self : goal.invariant_of-self
invariant_of-self g c =
    let h = c.self.invariant in
    let slots = g.D.BlockDisk.slot c.self.inside.disk in
    let log = records_in c.self.inside.history in
    let len : c.len.result ≡ length c.self.inside.tail.items = omega (arith, c.len.ensures) in
    let more : c.self.inside.written < end_of log = omega (arith, reach h, len, c.if-self-end.false, h.order.within) in
    let has : HasText (log_text c.self.inside.pages log) (end_of log) (c.self.inside.written / 512) c.block_at-block.result
    = block_text h c.block_at-block.result more (λ o lt. c.block_at-block.ensures o lt ∙ ap (λ bytes. slice_index bytes (512 * (c.self.inside.written / 512) - c.self.inside.base + o)) c.as_slice.ensures.value) in
    let low : c.self.inside.synced ≤ end_of log = omega (arith, h.order.order, h.order.within) in
    rw c.write.ensures.count (held-write h c.self.inside.written (g.D.BlockDisk.slot c.write.new.disk) h.order.order h.order.within
    (c.in_err-write.ensures.err (log_text c.self.inside.pages log) (end_of log) c.self.inside.written c.self.inside.synced has h.stored h.order.within low)
    (settled-but slots (g.D.BlockDisk.slot c.write.new.disk) c.self.inside.written c.self.inside.synced c.self.inside.written c.write.ensures.others h.order.order (omega arith) h.settled))

pub returns-in_err-write-clause-err : goal.returns-in_err-write-clause-err
returns-in_err-write-clause-err g c =
    let h = c.self.invariant in
    let log = records_in c.self.inside.history in
    let len : c.len.result ≡ length c.self.inside.tail.items = omega (arith, c.len.ensures) in
    let more : c.self.inside.written < end_of log = omega (arith, reach h, len, c.if-self-end.false, h.order.within) in
    let p = err_from_is_err_and c.from_residual.result c.from_residual.ensures.1 in
    rw (p.1, p.2, ← c.self.view_is, c.write.ensures.count, c.write.ensures.attempts) (more, record { failed = c.in_err-write.ensures.failures; same = refl })

pub invariant_of-self-2 : goal.invariant_of-self-2
invariant_of-self-2 g c =
    let h = c.self.invariant in
    let slots = g.D.BlockDisk.slot c.self.inside.disk in
    let log = records_in c.self.inside.history in
    let len : c.len.result ≡ length c.self.inside.tail.items = omega (arith, c.len.ensures) in
    let more : c.self.inside.written < end_of log = omega (arith, reach h, len, c.if-self-end.false, h.order.within) in
    let has : HasText (log_text c.self.inside.pages log) (end_of log) (c.self.inside.written / 512) c.block_at-block.result
    = block_text h c.block_at-block.result more (λ o lt. c.block_at-block.ensures o lt ∙ ap (λ bytes. slice_index bytes (512 * (c.self.inside.written / 512) - c.self.inside.base + o)) c.as_slice.ensures.value) in
    let low : c.self.inside.synced ≤ end_of log = omega (arith, h.order.order, h.order.within) in
    let next : c.min-self-inside.result ≡ min (end_of log) (512 * (c.self.inside.written / 512) + 512)
    = c.min-self-inside.ensures ∙ ap (λ n. min n (512 * (c.self.inside.written / 512) + 512)) (let e : c.self.inside.base + c.len.result ≡ end_of log = omega (arith, reach h, len) in e) in
    rw (c.write.ensures.count, next) (held-write h (min (end_of log) (512 * (c.self.inside.written / 512) + 512)) (g.D.BlockDisk.slot c.write.new.disk) (omega (arith, h.order.order, h.order.within, low)) (omega arith)
    (c.in_ok-write.ensures.ok (log_text c.self.inside.pages log) (end_of log) c.self.inside.written c.self.inside.synced (omega arith) has h.stored low)
    (settled-but slots (g.D.BlockDisk.slot c.write.new.disk) c.self.inside.written c.self.inside.synced (min (end_of log) (512 * (c.self.inside.written / 512) + 512)) c.write.ensures.others h.order.order (omega (arith, more)) h.settled))

pub returns-clause-ok : goal.returns-clause-ok
returns-clause-ok g c =
    let h = c.self.invariant in
    let log = records_in c.self.inside.history in
    let len : c.len.result ≡ length c.self.inside.tail.items = omega (arith, c.len.ensures) in
    let more : c.self.inside.written < end_of log = omega (arith, reach h, len, c.if-self-end.false, h.order.within) in
    let next : c.min-self-inside.result ≡ min (end_of log) (512 * (c.self.inside.written / 512) + 512)
    = c.min-self-inside.ensures ∙ ap (λ n. min n (512 * (c.self.inside.written / 512) + 512)) (let e : c.self.inside.base + c.len.result ≡ end_of log = omega (arith, reach h, len) in e) in
    rw (← c.self.view_is, c.write.ensures.count, next, c.in_ok-write.ensures.failures, c.write.ensures.attempts) (more, refl)
