use Rattle.std.proofs.Common.{◌≡◌, ◌+◌, ◌≤◌, Option, length, take, drop, refl, sym, subst, arith}
use Rattle.std.specs.Prelude.{IsSomeAnd}
use Rattle.std.proofs.lemmas.Result.{IfErr-weaker}
use Rattle.als_record.specs.declared.record.Record.{Record}
use Rattle.als_record.specs.Reading.{HasRows}
use Rattle.als_record.specs.Spelling.{spelling}
use Rattle.als_record.specs.LogText.{log_text, end_of}
use Rattle.als_log.specs.History.{records_in}
use Rattle.als_log.proofs.Keeping.{length-text}
use Rattle.als_log.proofs.Lookups.{Placed, placed-record, front-spelled, record_at-placed, fails_to_look}
use Rattle.als_log.proofs.Pieces.{part_is, readable-reach}
use Rattle.als_log.proofs.reading.look.Goals as goal

pub overflow_add-end : goal.overflow_add-end
overflow_add-end g c =
    let log = records_in c.args.source.history.now in
    let end : c.args.source.base + length c.args.source.bytes.now ≡ end_of log
    = readable-reach c.args.source.pages log (g.D.BlockDisk.slot c.args.disk.now) (g.D.BlockDisk.block_count c.args.disk.now) c.args.source.bytes.now c.args.source.base c.args.near.now c.requires in
    omega (arith, end, c.requires.fits, c.requires.few)

pub returns-then-end-at-clause-ok : goal.returns-then-end-at-clause-ok
returns-then-end-at-clause-ok g c has =
    let log = records_in c.args.source.history.now in
    let end : c.args.source.base + length c.args.source.bytes.now ≡ end_of log
    = readable-reach c.args.source.pages log (g.D.BlockDisk.slot c.args.disk.now) (g.D.BlockDisk.block_count c.args.disk.now) c.args.source.bytes.now c.args.source.base c.args.near.now c.requires in
    let p : Placed c.args.source.pages log c.args.at = placed-record c.args.source.pages log c.args.at c.requires.is_log has in
    absurd (omega (arith, end, p.low, p.end, c.if-end-at.true))

pub bring-requires-clause-fits : goal.bring-requires-clause-fits
bring-requires-clause-fits g c =
    let log = records_in c.args.source.history.now in
    let end : c.args.source.base + length c.args.source.bytes.now ≡ end_of log
    = readable-reach c.args.source.pages log (g.D.BlockDisk.slot c.args.disk.now) (g.D.BlockDisk.block_count c.args.disk.now) c.args.source.bytes.now c.args.source.base c.args.near.now c.requires in
    omega (arith, end, c.requires.fits)

pub returns-in-Some-clause-ok : goal.returns-in-Some-clause-ok
returns-in-Some-clause-ok g c has =
    let log = records_in c.args.source.history.now in
    let text = log_text c.args.source.pages log in
    let bytes = c.seen.result.now in
    let end : c.args.source.base + length c.args.source.bytes.now ≡ end_of log
    = readable-reach c.args.source.pages log (g.D.BlockDisk.slot c.args.disk.now) (g.D.BlockDisk.block_count c.args.disk.now) c.args.source.bytes.now c.args.source.base c.args.near.now c.requires in
    let within : c.args.at + length bytes ≤ length text = omega (arith, c.seen.ensures.within, end, length-text c.args.source.pages log) in
    let hand = c.in_ok-bring.ensures.ok text c.requires.source c.requires.near in
    let is : bytes ≡ take (length bytes) (drop c.args.at text)
    = part_is text bytes c.args.at (length bytes) refl within (c.seen.ensures.text (g.D.BlockDisk.slot c.args.disk.now) text c.requires.source hand) in
    let p : Placed c.args.source.pages log c.args.at = placed-record c.args.source.pages log c.args.at c.requires.is_log has in
    let spelled : c.in-Some.front.now ≡ spelling p.r = front-spelled p bytes c.in-Some.front.now (length bytes) c.in-Some.ensures.0 is c.in-Some.ensures.1 c.in-Some.ensures.2 in
    rw (record_at-placed p) (c.decoded.ensures.found p.r p.fits p.lsn spelled)

pub returns-in-Some-clause-err : goal.returns-in-Some-clause-err
returns-in-Some-clause-err g c =
    let log = records_in c.args.source.history.now in
    let text = log_text c.args.source.pages log in
    let bytes = c.seen.result.now in
    let end : c.args.source.base + length c.args.source.bytes.now ≡ end_of log
    = readable-reach c.args.source.pages log (g.D.BlockDisk.slot c.args.disk.now) (g.D.BlockDisk.block_count c.args.disk.now) c.args.source.bytes.now c.args.source.base c.args.near.now c.requires in
    let within : c.args.at + length bytes ≤ length text = omega (arith, c.seen.ensures.within, end, length-text c.args.source.pages log) in
    let hand = c.in_ok-bring.ensures.ok text c.requires.source c.requires.near in
    let is : bytes ≡ take (length bytes) (drop c.args.at text)
    = part_is text bytes c.args.at (length bytes) refl within (c.seen.ensures.text (g.D.BlockDisk.slot c.args.disk.now) text c.requires.source hand) in
    fails_to_look log c.args.at (g.D.BlockDisk.failures c.args.disk.now) (g.D.BlockDisk.failures c.bring.new.disk) c.decoded.result c.in_ok-bring.ensures.failures
    (IfErr-weaker c.decoded.result _ _ (λ e h. (
      h.0,
      λ has.
          let p : Placed c.args.source.pages log c.args.at = placed-record c.args.source.pages log c.args.at c.requires.is_log has in
          let spelled : c.in-Some.front.now ≡ spelling p.r = front-spelled p bytes c.in-Some.front.now (length bytes) c.in-Some.ensures.0 is c.in-Some.ensures.1 c.in-Some.ensures.2 in
          subst (λ (o : Option Record). IsSomeAnd o (λ r. HasRows r.body)) (sym (record_at-placed p)) (h.1 p.r p.fits p.lsn spelled),
    )) c.decoded.ensures.err)
