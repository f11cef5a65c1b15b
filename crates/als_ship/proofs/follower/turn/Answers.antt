use Rattle.als_ship.proofs.Schedules.{handles_front}
use Rattle.als_ship.proofs.LogForcing.{same_refl, same_trans}
use Rattle.als_ship.proofs.Sessions.{keeps_nothing, keeps_handled, tells_nothing, turned, tells_part}
use Rattle.std.proofs.lemmas.Result.{err_from_is_err_and}
use Rattle.als_ship.proofs.Stopping.{stops_read, stops_handled, stops_forced, stops_told, stops_kept}
use Rattle.als_ship.proofs.Vouching.{answers_nothing, answers_begun}
use Rattle.als_ship.proofs.follower.turn.Goals as goal

pub returns-in_err-frame-clause-front : goal.returns-in_err-frame-clause-front
returns-in_err-frame-clause-front g c =
    let m = g.E.Events.machine c.args.events.now in
    (g.R.Read.remaining c.args.reader.now, keeps_nothing g.E.Events.alone (g.R.Read.remaining c.args.reader.now) m m (λ a. same_refl m))

pub returns-in_err-handle-clause-front : goal.returns-in_err-handle-clause-front
returns-in_err-handle-clause-front g c =
    let old = g.E.Events.machine c.args.events.now in
    let mid = g.E.Events.machine c.handle.new.events in (
      g.R.Read.remaining c.read.new.reader,
      keeps_handled g.E.Events.alone (g.R.Read.remaining c.args.reader.now) (g.R.Read.remaining c.read.new.reader) old mid mid c.in_ok-frame.frame c.in_ok-frame.ensures.found.2
          (λ a texts seals epochs holds h. handles_front texts seals old mid c.in_ok-frame.frame c.handle.result epochs (c.handle.ensures.handles a) holds h) (λ a. same_refl mid),
    )

pub returns-in_err-lsn-clause-front : goal.returns-in_err-lsn-clause-front
returns-in_err-lsn-clause-front g c =
    let old = g.E.Events.machine c.args.events.now in
    let mid = g.E.Events.machine c.handle.new.events in (
      g.R.Read.remaining c.read.new.reader,
      keeps_handled g.E.Events.alone (g.R.Read.remaining c.args.reader.now) (g.R.Read.remaining c.read.new.reader) old mid (g.E.Events.machine c.force_by.new.events) c.in_ok-frame.frame c.in_ok-frame.ensures.found.2
          (λ a texts seals epochs holds h. handles_front texts seals old mid c.in_ok-frame.frame c.handle.result epochs (c.handle.ensures.handles a) holds h) c.force_by.ensures.same,
    )

pub returns-in_err-write_acknowledged-clause-front : goal.returns-in_err-write_acknowledged-clause-front
returns-in_err-write_acknowledged-clause-front g c =
    let old = g.E.Events.machine c.args.events.now in
    let mid = g.E.Events.machine c.handle.new.events in (
      g.R.Read.remaining c.read.new.reader,
      keeps_handled g.E.Events.alone (g.R.Read.remaining c.args.reader.now) (g.R.Read.remaining c.read.new.reader) old mid (g.E.Events.machine c.force_by.new.events) c.in_ok-frame.frame c.in_ok-frame.ensures.found.2
          (λ a texts seals epochs holds h. handles_front texts seals old mid c.in_ok-frame.frame c.handle.result epochs (c.handle.ensures.handles a) holds h) c.force_by.ensures.same,
    )

pub returns-in_err-keep_up-clause-front : goal.returns-in_err-keep_up-clause-front
returns-in_err-keep_up-clause-front g c =
    let old = g.E.Events.machine c.args.events.now in
    let mid = g.E.Events.machine c.handle.new.events in
    let forced = g.E.Events.machine c.force_by.new.events in
    let new = g.E.Events.machine c.keep_up.new.events in (
      g.R.Read.remaining c.read.new.reader,
      keeps_handled g.E.Events.alone (g.R.Read.remaining c.args.reader.now) (g.R.Read.remaining c.read.new.reader) old mid new c.in_ok-frame.frame c.in_ok-frame.ensures.found.2
          (λ a texts seals epochs holds h. handles_front texts seals old mid c.in_ok-frame.frame c.handle.result epochs (c.handle.ensures.handles a) holds h) (λ a. same_trans mid forced new (c.force_by.ensures.same a) (c.keep_up.ensures.same a)),
    )

pub returns-clause-front : goal.returns-clause-front
returns-clause-front g c =
    let old = g.E.Events.machine c.args.events.now in
    let mid = g.E.Events.machine c.handle.new.events in
    let forced = g.E.Events.machine c.force_by.new.events in
    let new = g.E.Events.machine c.keep_up.new.events in (
      g.R.Read.remaining c.read.new.reader,
      keeps_handled g.E.Events.alone (g.R.Read.remaining c.args.reader.now) (g.R.Read.remaining c.read.new.reader) old mid new c.in_ok-frame.frame c.in_ok-frame.ensures.found.2
          (λ a texts seals epochs holds h. handles_front texts seals old mid c.in_ok-frame.frame c.handle.result epochs (c.handle.ensures.handles a) holds h) (λ a. same_trans mid forced new (c.force_by.ensures.same a) (c.keep_up.ensures.same a)),
    )

pub returns-in_err-frame-clause-fails : goal.returns-in_err-frame-clause-fails
returns-in_err-frame-clause-fails g c =
    let old = g.E.Events.machine c.args.events.now in
    let found = stops_read g.E.Events.alone g.U.Upkeep.refuses old c.in_err-frame.field-0.0 (g.R.Read.remaining c.args.reader.now) (g.R.Read.remaining c.read.new.reader) c.in_err-frame.ensures.fails in
    let p = err_from_is_err_and c.from_residual.result c.from_residual.ensures.1 in rw (p.1, p.2) found

pub returns-in_err-handle-clause-fails : goal.returns-in_err-handle-clause-fails
returns-in_err-handle-clause-fails g c =
    let old = g.E.Events.machine c.args.events.now in
    let new = g.E.Events.machine c.handle.new.events in
    let found = stops_handled g.E.Events.alone g.U.Upkeep.refuses old new c.in_err-handle.field-0.0 c.in_ok-frame.frame (g.R.Read.remaining c.args.reader.now) (g.R.Read.remaining c.read.new.reader) c.in_ok-frame.ensures.found.0 c.in_ok-frame.ensures.found.1 c.in_ok-frame.ensures.found.2 c.in_err-handle.ensures.says c.in_err-handle.ensures.handles in
    let p = err_from_is_err_and c.from_residual-in_err-handle.result c.from_residual-in_err-handle.ensures.1 in rw (p.1, p.2) found

pub returns-in_err-lsn-clause-fails : goal.returns-in_err-lsn-clause-fails
returns-in_err-lsn-clause-fails g c =
    let old = g.E.Events.machine c.args.events.now in
    let mid = g.E.Events.machine c.handle.new.events in
    let new = g.E.Events.machine c.force_by.new.events in
    let found = stops_forced g.E.Events.alone g.U.Upkeep.refuses old mid new c.in_err-lsn.field-0.0 c.in_ok-frame.frame c.in_ok-handle.field-0 (g.R.Read.remaining c.args.reader.now) (g.R.Read.remaining c.read.new.reader) c.in_ok-frame.ensures.found.1 c.in_ok-frame.ensures.found.2 c.in_ok-handle.ensures.handles c.force_by.ensures.same c.in_err-lsn.ensures.fails c.in_err-lsn.ensures.says in
    let p = err_from_is_err_and c.from_residual-in_err-lsn.result c.from_residual-in_err-lsn.ensures.1 in rw (p.1, p.2) found

pub returns-in_err-write_acknowledged-clause-fails : goal.returns-in_err-write_acknowledged-clause-fails
returns-in_err-write_acknowledged-clause-fails g c =
    let old = g.E.Events.machine c.args.events.now in
    let mid = g.E.Events.machine c.handle.new.events in
    let new = g.E.Events.machine c.force_by.new.events in
    let found = stops_told g.E.Events.alone g.U.Upkeep.refuses old mid new c.in_err-write_acknowledged.field-0.0 c.in_ok-frame.frame c.in_ok-handle.field-0 (g.R.Read.remaining c.args.reader.now) (g.R.Read.remaining c.read.new.reader) c.in_ok-frame.ensures.found.1 c.in_ok-frame.ensures.found.2 c.in_ok-handle.ensures.handles c.force_by.ensures.same c.in_err-write_acknowledged.ensures.fails in
    let p = err_from_is_err_and c.from_residual-in_err-write_acknowledged.result c.from_residual-in_err-write_acknowledged.ensures.1 in rw (p.1, p.2) found

pub returns-in_err-keep_up-clause-fails : goal.returns-in_err-keep_up-clause-fails
returns-in_err-keep_up-clause-fails g c =
    let old = g.E.Events.machine c.args.events.now in
    let mid = g.E.Events.machine c.handle.new.events in
    let forced = g.E.Events.machine c.force_by.new.events in
    let new = g.E.Events.machine c.keep_up.new.events in
    let frame = c.in_ok-frame.frame in
    let lsn = c.in_ok-lsn.lsn in
    let failed = c.in_err-keep_up.ensures.fails in
    let found = stops_kept g.E.Events.alone g.U.Upkeep.refuses old new c.in_err-keep_up.field-0.0 failed.0 frame lsn (g.R.Read.remaining c.args.reader.now) (g.R.Read.remaining c.read.new.reader) c.in_ok-frame.ensures.found.1 c.in_ok-frame.ensures.found.2 (λ a. turned old mid forced new frame c.in_ok-handle.field-0 lsn (c.in_ok-handle.ensures.handles a) (c.in_ok-lsn.ensures.forces a) (c.keep_up.ensures.same a)) failed.1 failed.2 in
    let p = err_from_is_err_and c.from_residual-in_err-keep_up.result c.from_residual-in_err-keep_up.ensures.1 in rw (p.1, p.2) found

pub returns-in_err-frame-clause-part : goal.returns-in_err-frame-clause-part
returns-in_err-frame-clause-part g c =
    let found = tells_nothing g.E.Events.alone (g.E.Events.machine c.args.events.now) (g.E.Events.machine c.args.events.now) (g.R.Read.remaining c.args.reader.now) (g.R.Read.remaining c.read.new.reader) (g.W.Write.contents c.args.writer.now) in
    let p = err_from_is_err_and c.from_residual.result c.from_residual.ensures.1 in rw (p.1) found

pub returns-in_err-handle-clause-part : goal.returns-in_err-handle-clause-part
returns-in_err-handle-clause-part g c =
    let found = tells_nothing g.E.Events.alone (g.E.Events.machine c.args.events.now) (g.E.Events.machine c.handle.new.events) (g.R.Read.remaining c.args.reader.now) (g.R.Read.remaining c.read.new.reader) (g.W.Write.contents c.args.writer.now) in
    let p = err_from_is_err_and c.from_residual-in_err-handle.result c.from_residual-in_err-handle.ensures.1 in rw (p.1) found

pub returns-in_err-lsn-clause-part : goal.returns-in_err-lsn-clause-part
returns-in_err-lsn-clause-part g c =
    let found = tells_nothing g.E.Events.alone (g.E.Events.machine c.args.events.now) (g.E.Events.machine c.force_by.new.events) (g.R.Read.remaining c.args.reader.now) (g.R.Read.remaining c.read.new.reader) (g.W.Write.contents c.args.writer.now) in
    let p = err_from_is_err_and c.from_residual-in_err-lsn.result c.from_residual-in_err-lsn.ensures.1 in rw (p.1) found

pub returns-in_err-write_acknowledged-clause-part : goal.returns-in_err-write_acknowledged-clause-part
returns-in_err-write_acknowledged-clause-part g c =
    let old = g.E.Events.machine c.args.events.now in
    let mid = g.E.Events.machine c.handle.new.events in
    let forced = g.E.Events.machine c.force_by.new.events in
    let frame = c.in_ok-frame.frame in
    let lsn = c.in_ok-lsn.lsn in
    let found = tells_part g.E.Events.alone old forced (g.R.Read.remaining c.args.reader.now) (g.R.Read.remaining c.read.new.reader) (g.W.Write.contents c.args.writer.now) (g.W.Write.contents c.write_acknowledged.new.writer) frame lsn c.in_ok-frame.ensures.found.1 c.in_ok-frame.ensures.found.2 c.write_acknowledged.ensures.part (λ a. turned old mid forced forced frame c.in_ok-handle.field-0 lsn (c.in_ok-handle.ensures.handles a) (c.in_ok-lsn.ensures.forces a) (same_refl forced)) in
    let p = err_from_is_err_and c.from_residual-in_err-write_acknowledged.result c.from_residual-in_err-write_acknowledged.ensures.1 in rw (p.1) found

pub returns-in_err-keep_up-clause-part : goal.returns-in_err-keep_up-clause-part
returns-in_err-keep_up-clause-part g c =
    let old = g.E.Events.machine c.args.events.now in
    let mid = g.E.Events.machine c.handle.new.events in
    let forced = g.E.Events.machine c.force_by.new.events in
    let new = g.E.Events.machine c.keep_up.new.events in
    let frame = c.in_ok-frame.frame in
    let lsn = c.in_ok-lsn.lsn in
    let found = tells_part g.E.Events.alone old new (g.R.Read.remaining c.args.reader.now) (g.R.Read.remaining c.read.new.reader) (g.W.Write.contents c.args.writer.now) (g.W.Write.contents c.write_acknowledged.new.writer) frame lsn c.in_ok-frame.ensures.found.1 c.in_ok-frame.ensures.found.2 c.write_acknowledged.ensures.part (λ a. turned old mid forced new frame c.in_ok-handle.field-0 lsn (c.in_ok-handle.ensures.handles a) (c.in_ok-lsn.ensures.forces a) (c.keep_up.ensures.same a)) in
    let p = err_from_is_err_and c.from_residual-in_err-keep_up.result c.from_residual-in_err-keep_up.ensures.1 in rw (p.1) found

pub returns-clause-ok : goal.returns-clause-ok
returns-clause-ok g c = record {
  frame = c.in_ok-frame.frame;
  answer = c.in_ok-lsn.lsn;
  read = c.in_ok-frame.ensures.found.2;
  told = c.in_ok-write_acknowledged.ensures.all;
  is_last = c.is_last-last.ensures;
  turns = λ a. turned (g.E.Events.machine c.args.events.now) (g.E.Events.machine c.handle.new.events) (g.E.Events.machine c.force_by.new.events) (g.E.Events.machine c.keep_up.new.events) c.in_ok-frame.frame c.in_ok-handle.field-0 c.in_ok-lsn.lsn (c.in_ok-handle.ensures.handles a) (c.in_ok-lsn.ensures.forces a) (c.keep_up.ensures.same a);
}

pub returns-in_err-frame-clause-begins : goal.returns-in_err-frame-clause-begins
returns-in_err-frame-clause-begins g c =
    let found = answers_nothing (g.V.Voucher.floor c.args.voucher.now) (g.W.Write.contents c.args.writer.now) in
    let p = err_from_is_err_and c.from_residual.result c.from_residual.ensures.1 in rw (p.1) found

pub returns-in_err-handle-clause-begins : goal.returns-in_err-handle-clause-begins
returns-in_err-handle-clause-begins g c =
    let found = answers_nothing (g.V.Voucher.floor c.args.voucher.now) (g.W.Write.contents c.args.writer.now) in
    let p = err_from_is_err_and c.from_residual-in_err-handle.result c.from_residual-in_err-handle.ensures.1 in rw (p.1) found

pub returns-in_err-lsn-clause-begins : goal.returns-in_err-lsn-clause-begins
returns-in_err-lsn-clause-begins g c =
    let found = answers_nothing (g.V.Voucher.floor c.force_by.new.voucher) (g.W.Write.contents c.args.writer.now) in
    let p = err_from_is_err_and c.from_residual-in_err-lsn.result c.from_residual-in_err-lsn.ensures.1 in rw (p.1) found

pub returns-in_err-write_acknowledged-clause-begins : goal.returns-in_err-write_acknowledged-clause-begins
returns-in_err-write_acknowledged-clause-begins g c =
    let found = answers_begun (g.V.Voucher.floor c.force_by.new.voucher) (g.W.Write.contents c.args.writer.now) (g.W.Write.contents c.write_acknowledged.new.writer) c.in_ok-lsn.lsn c.in_ok-lsn.ensures.vouched c.write_acknowledged.ensures.part in
    let p = err_from_is_err_and c.from_residual-in_err-write_acknowledged.result c.from_residual-in_err-write_acknowledged.ensures.1 in rw (p.1) found

pub returns-in_err-keep_up-clause-begins : goal.returns-in_err-keep_up-clause-begins
returns-in_err-keep_up-clause-begins g c =
    let found = answers_begun (g.V.Voucher.floor c.force_by.new.voucher) (g.W.Write.contents c.args.writer.now) (g.W.Write.contents c.write_acknowledged.new.writer) c.in_ok-lsn.lsn c.in_ok-lsn.ensures.vouched c.write_acknowledged.ensures.part in
    let p = err_from_is_err_and c.from_residual-in_err-keep_up.result c.from_residual-in_err-keep_up.ensures.1 in rw (p.1) found

pub returns-clause-answers : goal.returns-clause-answers
returns-clause-answers g c = (c.in_ok-lsn.lsn, c.in_ok-lsn.ensures.vouched, c.in_ok-write_acknowledged.ensures.all)
