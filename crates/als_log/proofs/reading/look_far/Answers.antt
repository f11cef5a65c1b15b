use Rattle.std.proofs.Common.{◌≡◌, ◌+◌, Option, length, take, drop, sym, ap, subst, ◌∙◌, arith}
use Rattle.std.specs.Prelude.{IsSomeAnd}
use Rattle.std.proofs.lemmas.Result.{IfErr-weaker}
use Rattle.als_record.specs.declared.record.Record.{Record}
use Rattle.als_record.specs.Reading.{HasRows}
use Rattle.als_record.specs.Spelling.{spelling, record_len}
use Rattle.als_record.specs.LogText.{log_text, end_of}
use Rattle.als_log.specs.History.{records_in}
use Rattle.als_log.proofs.Lookups.{Placed, placed-record, field, spelled, record_at-placed, fails_to_look}
use Rattle.als_log.proofs.Pieces.{source-same, readable-reach}
use Rattle.als_log.proofs.reading.look_far.Goals.{then-size-gt-RECORD_LIMIT-via-then-size-gt-RECORD_LIMIT, then-size-gt-RECORD_LIMIT-via-else-size-gt-RECORD_LIMIT+then-end-at}
use Rattle.als_log.proofs.reading.look_far.Goals as goal

pub overflow_add-end : goal.overflow_add-end
overflow_add-end g c =
    let log = records_in c.args.source.history.now in
    let end : c.args.source.base + length c.args.source.bytes.now ≡ end_of log
    = readable-reach c.args.source.pages log (g.D.BlockDisk.slot c.args.disk.now) (g.D.BlockDisk.block_count c.args.disk.now) c.args.source.bytes.now c.args.source.base c.args.near.now c.requires in
    omega (arith, end, c.requires.fits, c.requires.few)

pub returns-then-end-saturating_add-clause-ok : goal.returns-then-end-saturating_add-clause-ok
returns-then-end-saturating_add-clause-ok g c has =
    let log = records_in c.args.source.history.now in
    let end : c.args.source.base + length c.args.source.bytes.now ≡ end_of log
    = readable-reach c.args.source.pages log (g.D.BlockDisk.slot c.args.disk.now) (g.D.BlockDisk.block_count c.args.disk.now) c.args.source.bytes.now c.args.source.base c.args.near.now c.requires in
    let p : Placed c.args.source.pages log c.args.at = placed-record c.args.source.pages log c.args.at c.requires.is_log has in
    absurd (omega (arith, end, p.low, p.end, c.saturating_add.ensures, c.if-end-saturating_add.true))

pub read_text-requires-clause-within : goal.read_text-requires-clause-within
read_text-requires-clause-within g c =
    let log = records_in c.args.source.history.now in
    let end : c.args.source.base + length c.args.source.bytes.now ≡ end_of log
    = readable-reach c.args.source.pages log (g.D.BlockDisk.slot c.args.disk.now) (g.D.BlockDisk.block_count c.args.disk.now) c.args.source.bytes.now c.args.source.base c.args.near.now c.requires in
    omega (arith, end, c.requires.fits, c.requires.few, c.saturating_add.ensures, c.if-end-saturating_add.false)

pub read_text-requires-clause-fits : goal.read_text-requires-clause-fits
read_text-requires-clause-fits g c =
    let log = records_in c.args.source.history.now in
    let end : c.args.source.base + length c.args.source.bytes.now ≡ end_of log
    = readable-reach c.args.source.pages log (g.D.BlockDisk.slot c.args.disk.now) (g.D.BlockDisk.block_count c.args.disk.now) c.args.source.bytes.now c.args.source.base c.args.near.now c.requires in
    omega (arith, end, c.requires.fits)

pub returns-then-size-gt-RECORD_LIMIT-clause-ok : goal.returns-then-size-gt-RECORD_LIMIT-clause-ok
returns-then-size-gt-RECORD_LIMIT-clause-ok g c has =
    let log = records_in c.args.source.history.now in
    let end : c.args.source.base + length c.args.source.bytes.now ≡ end_of log
    = readable-reach c.args.source.pages log (g.D.BlockDisk.slot c.args.disk.now) (g.D.BlockDisk.block_count c.args.disk.now) c.args.source.bytes.now c.args.source.base c.args.near.now c.requires in
    let p : Placed c.args.source.pages log c.args.at = placed-record c.args.source.pages log c.args.at c.requires.is_log has in
    let size : c.word-size.result ≡ record_len p.r
    = c.word-size.ensures ∙ field p c.as_slice.result.now (c.as_slice.ensures ∙ c.in_ok-read_text.ensures.ok (log_text c.args.source.pages log) c.requires.source c.requires.near) in
    elim c.then-size-gt-RECORD_LIMIT.branch [
      | then-size-gt-RECORD_LIMIT-via-then-size-gt-RECORD_LIMIT w ↦ absurd (omega (arith, size, p.most, w.if-size-gt-RECORD_LIMIT.true))
      | then-size-gt-RECORD_LIMIT-via-else-size-gt-RECORD_LIMIT+then-end-at w ↦ absurd (omega (arith, end, size, p.end, w.if-end-at.true))
    ]

pub read_text-requires-2-clause-fits : goal.read_text-requires-2-clause-fits
read_text-requires-2-clause-fits g c =
    let log = records_in c.args.source.history.now in
    let end : c.args.source.base + length c.args.source.bytes.now ≡ end_of log
    = readable-reach c.args.source.pages log (g.D.BlockDisk.slot c.args.disk.now) (g.D.BlockDisk.block_count c.args.disk.now) c.args.source.bytes.now c.args.source.base c.args.near.now c.requires in
    rw c.read_text.ensures.count (omega (arith, end, c.requires.fits))

pub returns-clause-ok : goal.returns-clause-ok
returns-clause-ok g c has =
    let log = records_in c.args.source.history.now in
    let p : Placed c.args.source.pages log c.args.at = placed-record c.args.source.pages log c.args.at c.requires.is_log has in
    let size : c.word-size.result ≡ record_len p.r
    = c.word-size.ensures ∙ field p c.as_slice.result.now (c.as_slice.ensures ∙ c.in_ok-read_text.ensures.ok (log_text c.args.source.pages log) c.requires.source c.requires.near) in
    let source = source-same (g.D.BlockDisk.slot c.args.disk.now) (g.D.BlockDisk.slot c.read_text.new.disk) c.args.source.bytes.now (log_text c.args.source.pages log) c.args.source.base c.read_text.ensures.same c.requires.source in
    let bytes : c.as_slice-2.result.now ≡ spelling p.r
    = c.as_slice-2.ensures ∙ c.in_ok-read_text-2.ensures.ok (log_text c.args.source.pages log) source (c.in_ok-read_text.ensures.near (log_text c.args.source.pages log) c.requires.source c.requires.near) ∙ ap (λ n. take n (drop c.args.at (log_text c.args.source.pages log))) size ∙ spelled p in
    rw (record_at-placed p) (c.decoded.ensures.found p.r p.fits p.lsn bytes)

pub returns-clause-err : goal.returns-clause-err
returns-clause-err g c =
    let log = records_in c.args.source.history.now in
    fails_to_look log c.args.at (g.D.BlockDisk.failures c.args.disk.now) (g.D.BlockDisk.failures c.read_text-2.new.disk) c.decoded.result (c.in_ok-read_text-2.ensures.failures ∙ c.in_ok-read_text.ensures.failures)
    (IfErr-weaker c.decoded.result _ _ (λ e h. (
      h.0,
      λ has.
          let p : Placed c.args.source.pages log c.args.at = placed-record c.args.source.pages log c.args.at c.requires.is_log has in
          let size : c.word-size.result ≡ record_len p.r
          = c.word-size.ensures ∙ field p c.as_slice.result.now (c.as_slice.ensures ∙ c.in_ok-read_text.ensures.ok (log_text c.args.source.pages log) c.requires.source c.requires.near) in
          let source = source-same (g.D.BlockDisk.slot c.args.disk.now) (g.D.BlockDisk.slot c.read_text.new.disk) c.args.source.bytes.now (log_text c.args.source.pages log) c.args.source.base c.read_text.ensures.same c.requires.source in
          let bytes : c.as_slice-2.result.now ≡ spelling p.r
          = c.as_slice-2.ensures ∙ c.in_ok-read_text-2.ensures.ok (log_text c.args.source.pages log) source (c.in_ok-read_text.ensures.near (log_text c.args.source.pages log) c.requires.source c.requires.near) ∙ ap (λ n. take n (drop c.args.at (log_text c.args.source.pages log))) size ∙ spelled p in
          subst (λ (o : Option Record). IsSomeAnd o (λ r. HasRows r.body)) (sym (record_at-placed p)) (h.1 p.r p.fits p.lsn bytes),
    )) c.decoded.ensures.err)
