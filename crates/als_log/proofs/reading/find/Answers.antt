use Rattle.std.proofs.Common.{◌≡◌, ◌+◌, ◌≤◌, length, sym, arith}
use Rattle.als_record.specs.LogText.{end_of}
use Rattle.als_log.specs.History.{records_in}
use Rattle.als_log.proofs.Lookups.{record_at-first, record_at-end}
use Rattle.als_log.proofs.Pieces.{readable-reach}
use Rattle.als_log.proofs.reading.find.Goals as goal

pub returns-then-to-lt16-clause-ok : goal.returns-then-to-lt16-clause-ok
returns-then-to-lt16-clause-ok g c = sym (record_at-first c.args.source.pages (records_in c.args.source.history.now) c.args.to c.requires.readable.is_log c.if-to-lt16.true)

pub returns-then-end-to-clause-ok : goal.returns-then-end-to-clause-ok
returns-then-end-to-clause-ok g c =
    let log = records_in c.args.source.history.now in
    let end : c.args.source.base + length c.args.source.bytes.now ≡ end_of log
    = readable-reach c.args.source.pages log (g.D.BlockDisk.slot c.args.disk.now) (g.D.BlockDisk.block_count c.args.disk.now) c.args.source.bytes.now c.args.source.base c.args.near.now c.requires.readable in
    let past : end_of log ≤ c.args.to = omega (arith, end, c.if-end-to.true) in
    sym (record_at-end c.args.source.pages log c.args.to c.requires.readable.is_log past)

pub overflow_add-end : goal.overflow_add-end
overflow_add-end g c =
    let log = records_in c.args.source.history.now in
    let end : c.args.source.base + length c.args.source.bytes.now ≡ end_of log
    = readable-reach c.args.source.pages log (g.D.BlockDisk.slot c.args.disk.now) (g.D.BlockDisk.block_count c.args.disk.now) c.args.source.bytes.now c.args.source.base c.args.near.now c.requires.readable in
    omega (arith, end, c.requires.readable.fits, c.requires.readable.few)

pub walk-requires-clause-within : goal.walk-requires-clause-within
walk-requires-clause-within g c =
    let log = records_in c.args.source.history.now in
    let end : c.args.source.base + length c.args.source.bytes.now ≡ end_of log
    = readable-reach c.args.source.pages log (g.D.BlockDisk.slot c.args.disk.now) (g.D.BlockDisk.block_count c.args.disk.now) c.args.source.bytes.now c.args.source.base c.args.near.now c.requires.readable in
    omega (arith, end, c.if-end-to.false)

pub read_record-requires-clause-within : goal.read_record-requires-clause-within
read_record-requires-clause-within g c =
    let log = records_in c.args.source.history.now in
    let end : c.args.source.base + length c.args.source.bytes.now ≡ end_of log
    = readable-reach c.args.source.pages log (g.D.BlockDisk.slot c.args.disk.now) (g.D.BlockDisk.block_count c.args.disk.now) c.args.source.bytes.now c.args.source.base c.args.near.now c.requires.readable in
    omega (arith, end, c.if-end-to.false, c.if-at-to.false)

pub returns-in_err-at-clause-past : goal.returns-in_err-at-clause-past
returns-in_err-at-clause-past g c past =
    let log = records_in c.args.source.history.now in
    let end : c.args.source.base + length c.args.source.bytes.now ≡ end_of log
    = readable-reach c.args.source.pages log (g.D.BlockDisk.slot c.args.disk.now) (g.D.BlockDisk.block_count c.args.disk.now) c.args.source.bytes.now c.args.source.base c.args.near.now c.requires.readable in
    absurd (omega (arith, end, past, c.if-end-to.false))

pub returns-in_err-found-clause-past : goal.returns-in_err-found-clause-past
returns-in_err-found-clause-past g c past =
    let log = records_in c.args.source.history.now in
    let end : c.args.source.base + length c.args.source.bytes.now ≡ end_of log
    = readable-reach c.args.source.pages log (g.D.BlockDisk.slot c.args.disk.now) (g.D.BlockDisk.block_count c.args.disk.now) c.args.source.bytes.now c.args.source.base c.args.near.now c.requires.readable in
    absurd (omega (arith, end, past, c.if-end-to.false))
