use Rattle.std.proofs.Common.{subst}
use Rattle.std.specs.Io.KnownBytes.{Appends}
use Rattle.std.proofs.lemmas.Result.{err_from_is_err_and}
use Rattle.als_record.specs.LogText.{header_bytes}
use Rattle.als_lookback.proofs.FrontLaws.{taker_refused, header_refused, cut_done}
use Rattle.als_lookback.proofs.cutting.cut_log.Goals as goal

pub returns-in_err-check_begins-clause-fails : goal.returns-in_err-check_begins-clause-fails
returns-in_err-check_begins-clause-fails g c =
    let p = err_from_is_err_and c.from_residual.result c.from_residual.ensures.1 in
    rw (p.1, p.2) (c.in_err-check_begins.ensures.err (g.R.Read.remaining c.args.reader))

pub returns-in_err-reading-clause-fails : goal.returns-in_err-reading-clause-fails
returns-in_err-reading-clause-fails g c =
    let p = err_from_is_err_and c.from_residual-in_err-reading.result c.from_residual-in_err-reading.ensures.1 in
    rw (p.1, p.2) (header_refused (g.R.Read.remaining c.args.reader) c.args.until c.in_err-reading.field-0.0 c.in_err-reading.ensures.err)

pub returns-in_err-put_header-clause-fails : goal.returns-in_err-put_header-clause-fails
returns-in_err-put_header-clause-fails g c =
    let p = err_from_is_err_and c.from_residual-in_err-put_header.result c.from_residual-in_err-put_header.ensures.1 in
    rw (p.1, p.2) (taker_refused (g.R.Read.remaining c.args.reader) c.args.until c.in_err-put_header.field-0.0 c.in_err-put_header.ensures.err)

pub returns-in_err-pour-clause-fails : goal.returns-in_err-pour-clause-fails
returns-in_err-pour-clause-fails g c =
    let p = err_from_is_err_and c.from_residual-in_err-pour.result c.from_residual-in_err-pour.ensures.1 in
    rw (p.1, p.2) (c.in_err-pour.ensures.err (g.R.Read.remaining c.args.reader) c.in_ok-reading.ensures.ok)

pub returns-clause-cuts : goal.returns-clause-cuts
returns-clause-cuts g c =
    let text = g.R.Read.remaining c.args.reader in
    let before = g.W.Write.contents c.args.writer.now in
    let mid = g.W.Write.contents c.put_header.new.writer in
    let ok = c.in_ok-pour.ensures.ok in
    let head = subst (λ n. Appends before mid (header_bytes n)) c.pages.ensures c.in_ok-put_header.ensures.ok in
    cut_done text c.args.until c.in_ok-reading.reading c.pour.new.reading before mid (g.W.Write.contents c.pour.new.writer) ok.0 c.end.result.0 c.in_ok-reading.ensures.none c.pour.ensures.same ok.1 c.in_ok-pour.ensures.valid ok.3 ok.2 (c.in_ok-pour.ensures.text text c.in_ok-reading.ensures.ok) head ok.4 c.end.ensures.end
