use Rattle.std.proofs.lemmas.Result.{err_from_is_err_and}
use Rattle.std.proofs.Common.{sym, subst}
use Rattle.als_record.specs.Spelling.{IsKey}
use Rattle.als_writer.specs.declared.ask.Ask.{Ask}
use Rattle.als_writer.specs.Checking.{key_asked}
use Rattle.als_writer.proofs.Looking.{look_known}
use Rattle.als_writer.proofs.Collecting.{next_is, next_told, now_asked}
use Rattle.als_writer.proofs.asking.failing_of.Goals as goal

pub loop-ask-preserved : goal.loop-ask-preserved
loop-ask-preserved g c = record {
  first = λ a.
      let log = (g.E.Events.machine c.args.engine.now).held.log in
      let ask = c.ask-item.result in
      let now = c.in_ok-now.now in
      let key = c.asked-key.result in
      let is = (c.in_ok-now.ensures.now a).now in
      next_is c.args.changes.now log c.args.asks.now c.loop-ask.ask-index ask c.holds-met.result (record { key = key; image = now }) c.loop-ask.failing c.show_next.new.failing
      c.loop-ask-test.true c.ask-item.is (c.holds-met.ensures a (now_asked log ask key now c.asked-key.ensures is)) (next_told log ask key now c.asked-key.ensures is)
      (c.loop-ask.invariant.first a) c.show_next.ensures;
}

pub returns-in_err-now-clause-refused : goal.returns-in_err-now-clause-refused
returns-in_err-now-clause-refused g c =
    let p = err_from_is_err_and c.from_residual.result c.from_residual.ensures.1 in
    rw (p.1, p.2) (λ a asked.
    let m = g.E.Events.machine c.args.engine.now in
    let is : IsKey m.held.pages c.asked-key.result =
    subst (IsKey m.held.pages) (sym c.asked-key.ensures) (subst (λ (x : Ask). IsKey m.held.pages (key_asked x)) (sym c.ask-item.is) (asked c.loop-ask.ask-index c.ask-item.result c.loop-ask-test.true)) in
    look_known m c.asked-key.result c.in_err-now.field-0.0 (c.in_err-now.ensures.refused a) is)
