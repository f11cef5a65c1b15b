use Rattle.std.proofs.Common.{◌≡◌, ◌-◌, ◌∙◌, ℕ, List, ap, length}
use Rattle.std.proofs.lemmas.Result.{err_from_is_err_and}
use Rattle.als_ship.proofs.Beginning.{served_in_vain, served_part, ships_all}
use Rattle.als_ship.proofs.shipper.Shipper.serve.Goals as goal

pub returns-in_err-from-clause-fails : goal.returns-in_err-from-clause-fails
returns-in_err-from-clause-fails g c = λ header begins small.
    let found = served_in_vain (g.S.Source.text c.args.source.now) (g.S.Source.seals c.args.source.now) header c.in_err-from.field-0.0 (g.R.Read.remaining c.args.reader.now) (g.W.Write.contents c.args.writer.now) (g.W.Write.contents c.meet.new.writer) begins small c.in_err-from.ensures.fails in
    let p = err_from_is_err_and c.from_residual.result c.from_residual.ensures.1 in rw (p.1, p.2) found

pub returns-in_err-pour-clause-fails : goal.returns-in_err-pour-clause-fails
returns-in_err-pour-clause-fails g c = λ header begins small.
    let found = served_part (g.S.Source.text c.args.source.now) (g.S.Source.seals c.args.source.now) header c.in_ok-from.from c.in_err-pour.field-0.0 (g.R.Read.remaining c.args.reader.now) (g.R.Read.remaining c.meet.new.reader) (g.W.Write.contents c.args.writer.now) (g.W.Write.contents c.meet.new.writer) begins small c.in_ok-from.ensures.met c.in_err-pour.ensures.fails in
    let p = err_from_is_err_and c.from_residual-in_err-pour.result c.from_residual-in_err-pour.ensures.1 in rw (p.1, p.2) found

pub returns-clause-sent : goal.returns-clause-sent
returns-clause-sent g c = λ header begins small.
    let text = g.S.Source.text c.args.source.now in
    let from = c.in_ok-from.from in
    let whole : c.end.result ≡ length text = c.end.ensures ∙ ap (λ (xs : List ℕ). length xs) c.pour.ensures.same in
    ships_all text (g.S.Source.seals c.args.source.now) header from (c.end.result - from) (g.R.Read.remaining c.args.reader.now) (g.R.Read.remaining c.meet.new.reader) (g.R.Read.remaining c.pour.new.reader) (g.W.Write.contents c.args.writer.now) (g.W.Write.contents c.meet.new.writer) (g.W.Write.contents c.pour.new.writer) c.pour.new.self.acknowledged
    begins small c.in_ok-from.ensures.met c.in_ok-pour.ensures.all (ap (λ (k : ℕ). k - from) whole)
