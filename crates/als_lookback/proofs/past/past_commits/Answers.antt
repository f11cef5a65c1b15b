use Rattle.std.proofs.lemmas.Result.{err_from_is_err_and}
use Rattle.als_lookback.specs.declared.until.Until.TheVariants.{End}
use Rattle.als_lookback.proofs.FrontLaws.{header_refused}
use Rattle.als_lookback.proofs.PastLaws.{counted}
use Rattle.als_lookback.proofs.past.past_commits.Goals as goal

pub returns-in_err-reading-clause-fails : goal.returns-in_err-reading-clause-fails
returns-in_err-reading-clause-fails g c =
    let p = err_from_is_err_and c.from_residual.result c.from_residual.ensures.1 in
    rw (p.1, p.2) (header_refused (g.R.Read.remaining c.args.reader) End c.in_err-reading.field-0.0 c.in_err-reading.ensures.err)

pub returns-in_err-count_on-clause-fails : goal.returns-in_err-count_on-clause-fails
returns-in_err-count_on-clause-fails g c =
    let p = err_from_is_err_and c.from_residual-in_err-count_on.result c.from_residual-in_err-count_on.ensures.1 in
    rw (p.1, p.2) (c.in_err-count_on.ensures.err (g.R.Read.remaining c.args.reader) c.in_ok-reading.ensures.ok)

pub returns-clause-counts : goal.returns-clause-counts
returns-clause-counts g c from is =
    let text = g.R.Read.remaining c.args.reader in
    let ok = c.in_ok-count_on.ensures.ok in
    counted text from c.in_ok-reading.reading c.count_on.new.reading c.args.past.now c.count_on.new.past c.in_ok-reading.ensures.none is ok.1 c.in_ok-count_on.ensures.valid ok.0 (c.in_ok-count_on.ensures.text text c.in_ok-reading.ensures.ok)
