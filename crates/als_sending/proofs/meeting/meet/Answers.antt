use Rattle.std.proofs.lemmas.Result.{err_from_is_err_and}
use Rattle.als_sending.proofs.Admitting.{turned_unasked, turned_judged}
use Rattle.als_sending.proofs.meeting.meet.Goals as goal

pub returns-in_err-from-clause-fails : goal.returns-in_err-from-clause-fails
returns-in_err-from-clause-fails g c =
    let found = turned_unasked c.header.result (g.G.Growing.pages c.args.log.now) (g.G.Growing.seals c.args.log.now) (g.G.Growing.shown c.args.log.now) c.in_err-from.field-0.0 (g.R.Read.remaining c.args.reader.now) (g.R.Read.remaining c.ask.new.reader) (g.W.Write.contents c.args.writer.now) c.header.ensures.header c.in_err-from.ensures.fails in
    let p = err_from_is_err_and c.from_residual.result c.from_residual.ensures.1 in rw (p.1, p.2) found

pub returns-in_err-admit-clause-fails : goal.returns-in_err-admit-clause-fails
returns-in_err-admit-clause-fails g c =
    let found = turned_judged c.header.result (g.G.Growing.pages c.args.log.now) c.history-own.result (g.G.Growing.seals c.args.log.now) c.in_ok-from.theirs c.in_ok-from.from c.in_ok-end.end (g.G.Growing.shown c.end.new.self) c.in_err-admit.field-0.0 (g.R.Read.remaining c.args.reader.now) (g.R.Read.remaining c.ask.new.reader) (g.W.Write.contents c.args.writer.now) (g.W.Write.contents c.write_epochs.new.writer)
    c.header.ensures.header c.history-own.ensures c.in_ok-end.ensures.told c.in_ok-from.ensures.found.0 c.in_ok-from.ensures.found.1 c.in_err-admit.ensures.fails c.in_ok-write_epochs.ensures.all in
    let p = err_from_is_err_and c.from_residual-in_err-admit.result c.from_residual-in_err-admit.ensures.1 in rw (p.1, p.2) found
