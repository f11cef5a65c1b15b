use Rattle.std.proofs.Common.{◌≡◌, ◌*◌, ◌≤◌, length, rules, arith}
use Rattle.std.proofs.lemmas.Result.{err_from_is_err_and}
use Rattle.als_wire.proofs.Recalling.{seals_refused}
use Rattle.als_wire.proofs.histories.read_history.Goals as goal

pub returns-in_err-history-clause-fails : goal.returns-in_err-history-clause-fails
returns-in_err-history-clause-fails g c =
    let before = g.R.Read.remaining c.args.reader.now in
    let between = g.R.Read.remaining c.read_word.new.reader in
    let behind = g.R.Read.remaining c.read_exact.new.self in
    let few : c.in_ok-epoch.epoch ≤ 32 = search (rules, arith) in
    let len : length c.read_exact.new.buf ≡ 8 * c.in_ok-epoch.epoch = search (rules, arith) in
    let found = seals_refused before between behind c.in_ok-epoch.epoch c.read_exact.new.buf c.in_err-history.field-0.0 few len c.in_err-history.ensures.fails c.in_ok-epoch.ensures.found c.in_ok-read_exact.ensures.bytes in
    let p = err_from_is_err_and c.from_residual-in_err-history.result c.from_residual-in_err-history.ensures.1 in rw (p.1, p.2) found
