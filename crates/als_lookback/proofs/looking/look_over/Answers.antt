use Rattle.std.proofs.Common.{[], subst}
use Rattle.std.proofs.lemmas.Result.{err_from_is_err_and}
use Rattle.als_lookback.specs.Seen.{IsSeenOf}
use Rattle.als_lookback.proofs.FrontLaws.{header_refused, looked_over}
use Rattle.als_lookback.proofs.looking.look_over.Goals as goal

pub returns-in_err-check_begins-clause-fails : goal.returns-in_err-check_begins-clause-fails
returns-in_err-check_begins-clause-fails g c =
    let p = err_from_is_err_and c.from_residual.result c.from_residual.ensures.1 in
    rw (p.1, p.2) (c.in_err-check_begins.ensures.err (g.R.Read.remaining c.args.reader))

pub returns-in_err-reading-clause-fails : goal.returns-in_err-reading-clause-fails
returns-in_err-reading-clause-fails g c =
    let p = err_from_is_err_and c.from_residual-in_err-reading.result c.from_residual-in_err-reading.ensures.1 in
    rw (p.1, p.2) (header_refused (g.R.Read.remaining c.args.reader) c.args.until c.in_err-reading.field-0.0 c.in_err-reading.ensures.err)

pub returns-in_err-seen-clause-fails : goal.returns-in_err-seen-clause-fails
returns-in_err-seen-clause-fails g c =
    let p = err_from_is_err_and c.from_residual-in_err-seen.result c.from_residual-in_err-seen.ensures.1 in
    rw (p.1, p.2) tt

pub returns-in_err-look_on-clause-fails : goal.returns-in_err-look_on-clause-fails
returns-in_err-look_on-clause-fails g c =
    let p = err_from_is_err_and c.from_residual-in_err-look_on.result c.from_residual-in_err-look_on.ensures.1 in
    rw (p.1, p.2) (c.in_err-look_on.ensures.err (g.R.Read.remaining c.args.reader) c.in_ok-reading.ensures.ok)

pub returns-clause-sees : goal.returns-clause-sees
returns-clause-sees g c =
    let text = g.R.Read.remaining c.args.reader in
    let ok = c.in_ok-look_on.ensures.ok in
    let first = subst (λ n. IsSeenOf c.in_ok-seen.seen n []) c.pages.ensures c.in_ok-seen.ensures in
    looked_over text c.args.until c.in_ok-reading.reading c.look_on.new.reading c.in_ok-seen.seen c.look_on.new.seen c.in_ok-standing.standing c.in_ok-reading.ensures.none c.look_on.ensures.same first ok.2 c.in_ok-look_on.ensures.valid ok.1 ok.0 (c.in_ok-look_on.ensures.text text c.in_ok-reading.ensures.ok) c.in_ok-standing.ensures
