use Rattle.std.proofs.Common.{◌≡◌, ◌+◌, [], ◌++◌, Some, length, take, drop, sym, ap, ◌∙◌, arith, append-nil}
use Rattle.als_record.specs.Spelling.{spelling, record_len}
use Rattle.als_record.specs.LogText.{log_text, end_of}
use Rattle.als_log.specs.History.{records_in}
use Rattle.als_log.proofs.Lookups.{Placed, placed, field, spelled, record_at-placed, found-same, found-none, wants_rows}
use Rattle.als_log.proofs.Pieces.{source-same, readable-reach}
use Rattle.als_log.proofs.reading.read_record.Goals as goal

pub read_text-requires-clause-within : goal.read_text-requires-clause-within
read_text-requires-clause-within g c =
    let log = records_in c.args.source.history.now in
    let r = c.requires.readable in
    let p : Placed c.args.source.pages log c.args.at = placed c.args.source.pages log c.args.at r.is_log c.requires.front c.requires.within in
    let end : c.args.source.base + length c.args.source.bytes.now ≡ end_of log
    = readable-reach c.args.source.pages log (g.D.BlockDisk.slot c.args.disk.now) (g.D.BlockDisk.block_count c.args.disk.now) c.args.source.bytes.now c.args.source.base c.args.near.now r in
    omega (arith, end, p.low, p.end)

pub read_text-requires-clause-fits : goal.read_text-requires-clause-fits
read_text-requires-clause-fits g c =
    let log = records_in c.args.source.history.now in
    let r = c.requires.readable in
    let end : c.args.source.base + length c.args.source.bytes.now ≡ end_of log
    = readable-reach c.args.source.pages log (g.D.BlockDisk.slot c.args.disk.now) (g.D.BlockDisk.block_count c.args.disk.now) c.args.source.bytes.now c.args.source.base c.args.near.now r in
    omega (arith, end, r.fits)

pub read_text-requires-2-clause-within : goal.read_text-requires-2-clause-within
read_text-requires-2-clause-within g c =
    let log = records_in c.args.source.history.now in
    let r = c.requires.readable in
    let p : Placed c.args.source.pages log c.args.at = placed c.args.source.pages log c.args.at r.is_log c.requires.front c.requires.within in
    let end : c.args.source.base + length c.args.source.bytes.now ≡ end_of log
    = readable-reach c.args.source.pages log (g.D.BlockDisk.slot c.args.disk.now) (g.D.BlockDisk.block_count c.args.disk.now) c.args.source.bytes.now c.args.source.base c.args.near.now r in
    let size : c.word-size.result ≡ record_len p.r
    = c.word-size.ensures ∙ field p c.as_slice.result.now (c.as_slice.ensures ∙ c.in_ok-read_text.ensures.ok (log_text c.args.source.pages log) r.source r.near) in
    omega (arith, end, size, p.end)

pub read_text-requires-2-clause-room : goal.read_text-requires-2-clause-room
read_text-requires-2-clause-room g c =
    let log = records_in c.args.source.history.now in
    let r = c.requires.readable in
    let p : Placed c.args.source.pages log c.args.at = placed c.args.source.pages log c.args.at r.is_log c.requires.front c.requires.within in
    let size : c.word-size.result ≡ record_len p.r
    = c.word-size.ensures ∙ field p c.as_slice.result.now (c.as_slice.ensures ∙ c.in_ok-read_text.ensures.ok (log_text c.args.source.pages log) r.source r.near) in
    omega (arith, size, p.most)

pub read_text-requires-2-clause-fits : goal.read_text-requires-2-clause-fits
read_text-requires-2-clause-fits g c =
    let log = records_in c.args.source.history.now in
    let r = c.requires.readable in
    let end : c.args.source.base + length c.args.source.bytes.now ≡ end_of log
    = readable-reach c.args.source.pages log (g.D.BlockDisk.slot c.args.disk.now) (g.D.BlockDisk.block_count c.args.disk.now) c.args.source.bytes.now c.args.source.base c.args.near.now r in
    rw c.read_text.ensures.count (omega (arith, end, r.fits))

pub unreachable-requires : goal.unreachable-requires
unreachable-requires g c =
    let log = records_in c.args.source.history.now in
    let r = c.requires.readable in
    let p : Placed c.args.source.pages log c.args.at = placed c.args.source.pages log c.args.at r.is_log c.requires.front c.requires.within in
    let size : c.word-size.result ≡ record_len p.r
    = c.word-size.ensures ∙ field p c.as_slice.result.now (c.as_slice.ensures ∙ c.in_ok-read_text.ensures.ok (log_text c.args.source.pages log) r.source r.near) in
    let source = source-same (g.D.BlockDisk.slot c.args.disk.now) (g.D.BlockDisk.slot c.read_text.new.disk) c.args.source.bytes.now (log_text c.args.source.pages log) c.args.source.base c.read_text.ensures.same r.source in
    let bytes : c.as_slice-2.result.now ≡ spelling p.r ++ []
    = c.as_slice-2.ensures ∙ c.in_ok-read_text-2.ensures.ok (log_text c.args.source.pages log) source (c.in_ok-read_text.ensures.near (log_text c.args.source.pages log) r.source r.near) ∙ ap (λ n. take n (drop c.args.at (log_text c.args.source.pages log))) size ∙ spelled p ∙ sym (append-nil (spelling p.r)) in
    found-none (p.r, record_len p.r) c.in-Ok-None.field-0 (c.in-Ok-None.ensures.only p.r [] p.fits p.lsn bytes) c.in-Ok-None.field-0-is

pub returns-in-Ok-Some-clause-ok : goal.returns-in-Ok-Some-clause-ok
returns-in-Ok-Some-clause-ok g c =
    let log = records_in c.args.source.history.now in
    let r = c.requires.readable in
    let p : Placed c.args.source.pages log c.args.at = placed c.args.source.pages log c.args.at r.is_log c.requires.front c.requires.within in
    let size : c.word-size.result ≡ record_len p.r
    = c.word-size.ensures ∙ field p c.as_slice.result.now (c.as_slice.ensures ∙ c.in_ok-read_text.ensures.ok (log_text c.args.source.pages log) r.source r.near) in
    let source = source-same (g.D.BlockDisk.slot c.args.disk.now) (g.D.BlockDisk.slot c.read_text.new.disk) c.args.source.bytes.now (log_text c.args.source.pages log) c.args.source.base c.read_text.ensures.same r.source in
    let bytes : c.as_slice-2.result.now ≡ spelling p.r ++ []
    = c.as_slice-2.ensures ∙ c.in_ok-read_text-2.ensures.ok (log_text c.args.source.pages log) source (c.in_ok-read_text.ensures.near (log_text c.args.source.pages log) r.source r.near) ∙ ap (λ n. take n (drop c.args.at (log_text c.args.source.pages log))) size ∙ spelled p ∙ sym (append-nil (spelling p.r)) in
    record_at-placed p ∙ ap Some (found-same p.r c.in-Ok-Some.found (record_len p.r) _ c.in-Ok-Some.field-0 (c.in-Ok-Some.ensures.only p.r [] p.fits p.lsn bytes) c.in-Ok-Some.field-0-is)

pub returns-in-Err-clause-err : goal.returns-in-Err-clause-err
returns-in-Err-clause-err g c =
    let log = records_in c.args.source.history.now in
    let r = c.requires.readable in
    let p : Placed c.args.source.pages log c.args.at = placed c.args.source.pages log c.args.at r.is_log c.requires.front c.requires.within in
    let size : c.word-size.result ≡ record_len p.r
    = c.word-size.ensures ∙ field p c.as_slice.result.now (c.as_slice.ensures ∙ c.in_ok-read_text.ensures.ok (log_text c.args.source.pages log) r.source r.near) in
    let source = source-same (g.D.BlockDisk.slot c.args.disk.now) (g.D.BlockDisk.slot c.read_text.new.disk) c.args.source.bytes.now (log_text c.args.source.pages log) c.args.source.base c.read_text.ensures.same r.source in
    let bytes : c.as_slice-2.result.now ≡ spelling p.r ++ []
    = c.as_slice-2.ensures ∙ c.in_ok-read_text-2.ensures.ok (log_text c.args.source.pages log) source (c.in_ok-read_text.ensures.near (log_text c.args.source.pages log) r.source r.near) ∙ ap (λ n. take n (drop c.args.at (log_text c.args.source.pages log))) size ∙ spelled p ∙ sym (append-nil (spelling p.r)) in
    (wants_rows p c.in-Err.field-0 c.as_slice-2.result.now bytes (c.in-Err.ensures.only p.r [] p.fits p.lsn bytes) c.in-Err.ensures.rows, c.in_ok-read_text-2.ensures.failures ∙ c.in_ok-read_text.ensures.failures)

pub returns-in-Ok-Some-clause-near : goal.returns-in-Ok-Some-clause-near
returns-in-Ok-Some-clause-near g c =
    let text = log_text c.args.source.pages (records_in c.args.source.history.now) in
    let r = c.requires.readable in
    let source = source-same (g.D.BlockDisk.slot c.args.disk.now) (g.D.BlockDisk.slot c.read_text.new.disk) c.args.source.bytes.now text c.args.source.base c.read_text.ensures.same r.source in
    c.read_text-2.ensures.near text source (c.read_text.ensures.near text r.source r.near)

pub returns-in-Err-clause-near : goal.returns-in-Err-clause-near
returns-in-Err-clause-near g c =
    let text = log_text c.args.source.pages (records_in c.args.source.history.now) in
    let r = c.requires.readable in
    let source = source-same (g.D.BlockDisk.slot c.args.disk.now) (g.D.BlockDisk.slot c.read_text.new.disk) c.args.source.bytes.now text c.args.source.base c.read_text.ensures.same r.source in
    c.read_text-2.ensures.near text source (c.read_text.ensures.near text r.source r.near)
