use Rattle.std.proofs.lemmas.Result.{err_from_is_err_and}
use Rattle.als_wire.proofs.Failing.{epochs_failed}
use Rattle.als_wire.proofs.reading.read_epochs.Goals as goal

pub returns-in_err-history-clause-fails : goal.returns-in_err-history-clause-fails
returns-in_err-history-clause-fails g c =
    let before = g.R.Read.remaining c.args.reader.now in
    let between = g.R.Read.remaining c.read_tag.new.reader in
    let behind = g.R.Read.remaining c.read_history.new.reader in
    let found = epochs_failed before between behind c.in_err-history.field-0.0 c.in_ok-read_tag.ensures.found c.in_err-history.ensures.fails in
    let p = err_from_is_err_and c.from_residual-in_err-history.result c.from_residual-in_err-history.ensures.1 in rw (p.1, p.2) found
