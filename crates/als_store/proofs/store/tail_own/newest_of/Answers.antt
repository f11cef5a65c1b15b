use Rattle.std.proofs.Common.{◌≡◌, true, false, ◌-◌, length, List, sym, ap, ◌∙◌}
use Rattle.std.specs.Prelude.{slice_get}
use Rattle.als_record.specs.declared.record.Record.{Record}
use Rattle.als_record.specs.Table.{row_of}
use Rattle.als_record.specs.Transactions.{is_loser}
use Rattle.als_takeover.specs.Next.{first_of}
use Rattle.als_store.proofs.TailOwnLaws.{lost-row, newest-row, undoing-lost, undoing-kept}
use Rattle.als_store.proofs.store.tail_own.newest_of.Goals as goal

pub returns-then-not-is_lost : goal.returns-then-not-is_lost
returns-then-not-is_lost c pages log t judged there row =
    let is : c.row-row.result ≡ row_of log t = c.row-row.ensures ∙ row in
    let e : is_loser log t ≡ false = sym (lost-row log t c.row-row.result there is) ∙ sym c.if-not-is_lost.ensures in
    sym (ap first_of (undoing-kept log t e))

pub returns : goal.returns
returns c pages log t judged there row =
    let is : c.row-row.result ≡ row_of log t = c.row-row.ensures ∙ row in
    let e : is_loser log t ≡ true = sym (lost-row log t c.row-row.result there is) ∙ sym c.if-not-is_lost.ensures in
    c.last.ensures.value ∙ ap (λ (us : List Record). slice_get us (length us - 1)) (c.survivors_of.ensures pages log judged)
    ∙ newest-row log t c.row-row.result there is ∙ ap first_of (sym (undoing-lost log t e))
