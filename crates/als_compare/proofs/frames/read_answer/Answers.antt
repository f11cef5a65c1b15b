use Rattle.std.proofs.lemmas.Result.{err_from_is_err_and}
use Rattle.als_compare.proofs.Parts.{verdict_failed}
use Rattle.als_compare.proofs.frames.read_answer.Goals as goal

pub returns-in_err-verdict-clause-fails : goal.returns-in_err-verdict-clause-fails
returns-in_err-verdict-clause-fails g c =
    let before = g.R.Read.remaining c.args.reader.now in
    let between = g.R.Read.remaining c.read_tag.new.reader in
    let behind = g.R.Read.remaining c.read_verdict.new.reader in
    let found = verdict_failed c.in_err-verdict.field-0.0 before between behind c.in_ok-read_tag.ensures.found c.in_err-verdict.ensures.fails in
    let p = err_from_is_err_and c.from_residual-in_err-verdict.result c.from_residual-in_err-verdict.ensures.1 in rw (p.1, p.2) found
