use Rattle.std.proofs.Common.{◌≡◌, ◌≤◌, ◌<◌, ℕ, List, [], ◌++◌, sym, ap, subst, ◌∙◌, arith, append-nil}
use Rattle.std.specs.Io.KnownBytes.{Appends}
use Rattle.std.proofs.KnownBytes.{Appends-nil}
use Rattle.als_record.specs.declared.record.Record.{Record as AnyRecord}
use Rattle.als_record.specs.LogText.{spellings, end_of}
use Rattle.als_record.specs.Transactions.{greatest_trans}
use Rattle.als_record.proofs.LogLaws.{spellings-nil}
use Rattle.als_writing.specs.Writing.{transaction}
use Rattle.als_renew.specs.Closing.{closing}
use Rattle.als_renew.proofs.Closing.{closing-above, closing-reached}
use Rattle.als_renew.proofs.Generations.{new-behind}
use Rattle.als_renew.proofs.beginning.write_number.Goals as goal

pub returns-then-number-from-clause-ok : goal.returns-then-number-from-clause-ok
returns-then-number-from-clause-ok g c log valid few ends greatest =
    let t = c.args.number.0 in
    let text = g.W.Write.contents c.args.writer.now in
    let same : closing t log ≡ [] = closing-reached t log (omega (arith, c.if-number-from.true, greatest)) in (
      ends ∙ sym (ap end_of (ap (λ (more : List AnyRecord). log ++ more) same ∙ append-nil log)),
      subst (λ (more : List AnyRecord). Appends text text (spellings more)) (sym same) (subst (Appends text text) (sym spellings-nil) (Appends-nil text)),
    )

pub returns-clause-ok : goal.returns-clause-ok
returns-clause-ok g c log valid few ends greatest =
    let t = c.args.number.0 in
    let above : greatest_trans log < t = omega (arith, c.if-number-from.false, greatest) in
    let is : closing t log ≡ transaction log t [] = closing-above t log above in
    let s = c.in_ok-spelled.ensures.piece log valid ends (new-behind log few t above) in (
      s.ends ∙ sym (ap (λ (more : List AnyRecord). end_of (log ++ more)) is),
      subst (Appends (g.W.Write.contents c.args.writer.now) (g.W.Write.contents c.put.new.writer)) (c.deref.ensures.value ∙ s.spelled ∙ sym (ap spellings is)) c.in_ok-put.ensures.ok,
    )
