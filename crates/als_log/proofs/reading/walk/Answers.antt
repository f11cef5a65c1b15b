use Rattle.std.proofs.Common.{◌≡◌, ◌⊎◌, ◌+◌, ◌≤◌, None, length, sym, subst, ◌∙◌, arith, inl, inr}
use Rattle.std.proofs.lemmas.Bool.{cases_lt}
use Rattle.als_record.specs.Spelling.{record_len}
use Rattle.als_record.specs.LogText.{log_text, end_of}
use Rattle.als_log.specs.History.{records_in}
use Rattle.als_log.specs.Local.{IsFrontEnd}
use Rattle.als_log.specs.Reading.{record_at}
use Rattle.als_log.proofs.Lookups.{Placed, placed, field, placed-end, record_at-inside}
use Rattle.als_log.proofs.Pieces.{source-same, readable-reach}
use Rattle.als_log.proofs.reading.walk.Goals as goal

pub read_text-requires-clause-within : goal.read_text-requires-clause-within
read_text-requires-clause-within g c =
    let log = records_in c.args.source.history.now in
    let pages = c.args.source.pages in
    let r = c.requires.readable in
    let p : Placed pages log c.loop-at.at = placed pages log c.loop-at.at r.is_log c.loop-at.invariant.front (omega (arith, c.loop-at-test.true, c.requires.within)) in
    let end : c.args.source.base + length c.args.source.bytes.now ≡ end_of log
    = readable-reach pages log (g.D.BlockDisk.slot c.args.disk.now) (g.D.BlockDisk.block_count c.args.disk.now) c.args.source.bytes.now c.args.source.base c.args.near.now r in
    omega (arith, end, p.low, p.end)

pub read_text-requires-clause-fits : goal.read_text-requires-clause-fits
read_text-requires-clause-fits g c =
    let log = records_in c.args.source.history.now in
    let pages = c.args.source.pages in
    let r = c.requires.readable in
    let end : c.args.source.base + length c.args.source.bytes.now ≡ end_of log
    = readable-reach pages log (g.D.BlockDisk.slot c.args.disk.now) (g.D.BlockDisk.block_count c.args.disk.now) c.args.source.bytes.now c.args.source.base c.args.near.now r in
    rw c.loop-at.invariant.count (omega (arith, end, r.fits))

pub loop-at-smaller : goal.loop-at-smaller
loop-at-smaller g c =
    let log = records_in c.args.source.history.now in
    let pages = c.args.source.pages in
    let r = c.requires.readable in
    let p : Placed pages log c.loop-at.at = placed pages log c.loop-at.at r.is_log c.loop-at.invariant.front (omega (arith, c.loop-at-test.true, c.requires.within)) in
    let source = source-same (g.D.BlockDisk.slot c.args.disk.now) (g.D.BlockDisk.slot c.loop-at.disk) c.args.source.bytes.now (log_text pages log) c.args.source.base c.loop-at.invariant.same r.source in
    let size : c.from-at.result ≡ record_len p.r
    = c.from-at.ensures ∙ c.word.ensures ∙ field p c.as_slice.result.now (c.as_slice.ensures ∙ c.in_ok-read_text.ensures.ok (log_text pages log) source c.loop-at.invariant.near) in
    omega (arith, size, p.low, c.loop-at-test.true)

pub loop-at-preserved : goal.loop-at-preserved
loop-at-preserved g c =
    let log = records_in c.args.source.history.now in
    let pages = c.args.source.pages in
    let r = c.requires.readable in
    let p : Placed pages log c.loop-at.at = placed pages log c.loop-at.at r.is_log c.loop-at.invariant.front (omega (arith, c.loop-at-test.true, c.requires.within)) in
    let source = source-same (g.D.BlockDisk.slot c.args.disk.now) (g.D.BlockDisk.slot c.loop-at.disk) c.args.source.bytes.now (log_text pages log) c.args.source.base c.loop-at.invariant.same r.source in
    let size : c.from-at.result ≡ record_len p.r
    = c.from-at.ensures ∙ c.word.ensures ∙ field p c.as_slice.result.now (c.as_slice.ensures ∙ c.in_ok-read_text.ensures.ok (log_text pages log) source c.loop-at.invariant.near) in
    let past : (c.loop-at.at + record_len p.r ≤ c.args.to) ⊎ (record_at log c.args.to ≡ None) = elim (cases_lt c.args.to (c.loop-at.at + record_len p.r)) [
      | inl lt ↦ inr (record_at-inside p c.args.to c.loop-at-test.true lt)
      | inr le ↦ inl le
    ] in
    record {
      front = subst (λ n. IsFrontEnd log (c.loop-at.at + n)) (sym size) (placed-end p);
      past = subst (λ n. (c.loop-at.at + n ≤ c.args.to) ⊎ (record_at log c.args.to ≡ None)) (sym size) past;
      near = c.in_ok-read_text.ensures.near (log_text pages log) source c.loop-at.invariant.near;
      same = λ k. c.in_ok-read_text.ensures.same k ∙ c.loop-at.invariant.same k;
      count = c.in_ok-read_text.ensures.count ∙ c.loop-at.invariant.count;
      failures = c.in_ok-read_text.ensures.failures ∙ c.loop-at.invariant.failures;
      attempts = c.in_ok-read_text.ensures.attempts ∙ c.loop-at.invariant.attempts;
    }
