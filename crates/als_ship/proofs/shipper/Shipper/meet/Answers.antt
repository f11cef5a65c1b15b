use Rattle.std.proofs.Common.{subst, List, ℕ}
use Rattle.std.proofs.lemmas.Result.{err_from_is_err_and}
use Rattle.als_ship.specs.Meeting.{MeetsInVain}
use Rattle.als_ship.proofs.Beginning.{header_of, vain_judged}
use Rattle.als_ship.proofs.shipper.Shipper.meet.Goals as goal

pub returns-in_err-admit-clause-fails : goal.returns-in_err-admit-clause-fails
returns-in_err-admit-clause-fails g c =
    let text = g.S.Source.text c.args.source.now in
    let asked = g.R.Read.remaining c.args.reader.now in
    let between = g.R.Read.remaining c.ask.new.reader in
    let written = g.W.Write.contents c.args.writer.now in
    let more = g.W.Write.contents c.write_epochs.new.writer in
    let is = header_of text c.header.result c.header.ensures.header c.header.ensures.range in
    let vain = vain_judged text c.history-own.result c.in_ok-from.theirs c.header.result c.in_ok-from.from c.end.result c.in_err-admit.field-0.0 asked between written more is c.end.ensures c.in_ok-from.ensures.found.0 c.in_ok-from.ensures.found.1 c.in_err-admit.ensures.fails c.in_ok-write_epochs.ensures.all in
    let found = subst (λ (own : List ℕ). MeetsInVain text own c.in_err-admit.field-0.0 asked written more) c.history-own.ensures vain in
    let p = err_from_is_err_and c.from_residual-in_err-admit.result c.from_residual-in_err-admit.ensures.1 in rw (p.1, p.2) found
