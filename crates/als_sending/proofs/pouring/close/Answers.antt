use Rattle.std.proofs.Common.{List, []}
use Rattle.std.proofs.lemmas.Result.{err_from_is_err_and}
use Rattle.als_wire.specs.Frames.{data_bytes}
use Rattle.als_ship.proofs.Pieces.{puts_all}
use Rattle.als_sending.specs.Reads.{Read}
use Rattle.als_sending.proofs.Going.{stops_closing, closes_here}
use Rattle.als_sending.proofs.Admitting.{fails_answer}
use Rattle.als_sending.proofs.pouring.close.Goals as goal

pub returns-in_err-write_data-clause-stops : goal.returns-in_err-write_data-clause-stops
returns-in_err-write_data-clause-stops g c =
    let found = λ (reads : List Read). stops_closing c.args.way.now reads (g.M.Marks.heard c.args.marks.now) (g.R.Read.remaining c.args.reader.now) (g.W.Write.contents c.args.writer.now) (g.W.Write.contents c.write_data.new.writer) c.requires.answered c.requires.some c.write_data.ensures.part in
    let p = err_from_is_err_and c.from_residual.result c.from_residual.ensures.1 in rw (p.1) found

pub returns-in_err-lsn-clause-stops : goal.returns-in_err-lsn-clause-stops
returns-in_err-lsn-clause-stops g c =
    let puts = puts_all (data_bytes c.args.way.now.epoch c.args.way.now.at []) (g.W.Write.contents c.args.writer.now) (g.W.Write.contents c.write_data.new.writer) c.in_ok-write_data.ensures.all in
    let found = λ (reads : List Read). stops_closing c.args.way.now reads (g.M.Marks.heard c.args.marks.now) (g.R.Read.remaining c.args.reader.now) (g.W.Write.contents c.args.writer.now) (g.W.Write.contents c.write_data.new.writer) c.requires.answered c.requires.some puts in
    let p = err_from_is_err_and c.from_residual-in_err-lsn.result c.from_residual-in_err-lsn.ensures.1 in rw (p.1) found

pub returns-in_err-lsn-clause-fails : goal.returns-in_err-lsn-clause-fails
returns-in_err-lsn-clause-fails g c =
    let found = fails_answer c.in_err-lsn.field-0.0 (g.R.Read.remaining c.args.reader.now) (g.R.Read.remaining c.hear.new.reader) c.in_err-lsn.ensures.fails in
    let p = err_from_is_err_and c.from_residual-in_err-lsn.result c.from_residual-in_err-lsn.ensures.1 in rw (p.1, p.2) found

pub returns-clause-closes : goal.returns-clause-closes
returns-clause-closes g c = λ reads.
    closes_here c.args.way.now c.in_ok-lsn.lsn reads (g.M.Marks.heard c.args.marks.now) (g.M.Marks.heard c.acknowledge.new.self) (g.R.Read.remaining c.args.reader.now) (g.R.Read.remaining c.hear.new.reader) (g.W.Write.contents c.args.writer.now) (g.W.Write.contents c.write_data.new.writer)
    c.requires.answered c.in_ok-write_data.ensures.all c.in_ok-lsn.ensures.found c.in_ok-lsn.ensures.fits c.acknowledge.ensures.heard
