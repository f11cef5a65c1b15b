use Rattle.std.proofs.Common.{inr}
use Rattle.std.proofs.lemmas.Result.{err_from_is_err_and}
use Rattle.als_lookback.specs.declared.until.Until.TheVariants.{End}
use Rattle.als_lookback.proofs.FrontLaws.{header_refused}
use Rattle.als_lookback.proofs.finding.find_commit.Goals as goal

pub returns-in_err-reading-clause-fails : goal.returns-in_err-reading-clause-fails
returns-in_err-reading-clause-fails g c =
    let p = err_from_is_err_and c.from_residual.result c.from_residual.ensures.1 in
    rw (p.1, p.2) (inr (header_refused (g.R.Read.remaining c.args.reader) End c.in_err-reading.field-0.0 c.in_err-reading.ensures.err))

pub returns-in_err-lsn-clause-fails : goal.returns-in_err-lsn-clause-fails
returns-in_err-lsn-clause-fails g c =
    let p = err_from_is_err_and c.from_residual-in_err-lsn.result c.from_residual-in_err-lsn.ensures.1 in
    rw (p.1, p.2) (c.in_err-lsn.ensures.err (g.R.Read.remaining c.args.reader) c.in_ok-reading.ensures.ok)

pub returns-clause-finds : goal.returns-clause-finds
returns-clause-finds g c = c.in_ok-lsn.ensures.found (g.R.Read.remaining c.args.reader) c.in_ok-reading.ensures.ok
