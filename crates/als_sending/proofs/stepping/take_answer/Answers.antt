use Rattle.std.proofs.Common.{arith, refl, ◌+◌, ◌-◌, ◌≡◌}
use Rattle.std.proofs.lemmas.Result.{err_from_is_err_and}
use Rattle.als_sending.specs.declared.way.Way.{Way}
use Rattle.als_sending.proofs.Going.{goes_answer}
use Rattle.als_sending.proofs.Admitting.{fails_answer}
use Rattle.als_sending.proofs.stepping.take_answer.Goals as goal

pub returns-in_err-lsn-clause-fails : goal.returns-in_err-lsn-clause-fails
returns-in_err-lsn-clause-fails g c =
    let found = fails_answer c.in_err-lsn.field-0.0 (g.R.Read.remaining c.args.reader.now) (g.R.Read.remaining c.hear.new.reader) c.in_err-lsn.ensures.fails in
    let p = err_from_is_err_and c.from_residual.result c.from_residual.ensures.1 in rw (p.1, p.2) found

pub returns-clause-goes : goal.returns-clause-goes
returns-clause-goes g c = λ reads written.
    let w : Way = c.args.way.now in
    let v : Way = record { epoch = w.epoch; window = w.window; at = w.at; end = w.end; ahead = w.ahead - 1 } in
    let one : w.ahead ≡ v.ahead + 1 = omega (arith, c.requires.out) in
    goes_answer w v c.in_ok-lsn.lsn reads (g.M.Marks.heard c.args.marks.now) (g.M.Marks.heard c.acknowledge.new.self) (g.R.Read.remaining c.args.reader.now) (g.R.Read.remaining c.hear.new.reader) written
    c.in_ok-lsn.ensures.found c.in_ok-lsn.ensures.fits c.acknowledge.ensures.heard refl refl refl one
