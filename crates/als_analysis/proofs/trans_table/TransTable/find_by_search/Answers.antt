use Rattle.std.proofs.Common.{◌≡◌, ◌≤◌, false, List, length, get_or, ap, ◌∙◌, subst, arith}
use Rattle.std.proofs.lemmas.List.{get_or_default}
use Rattle.als_record.specs.declared.transaction_row.TransactionRow.{TransactionRow}
use Rattle.als_record.specs.Transactions.{is_among}
use Rattle.als_analysis.specs.declared.open_row.OpenRow.{OpenRow}
use Rattle.als_analysis.specs.Open.{fresh_open}
use Rattle.als_analysis.specs.Kept.{IsPlace, numbers}
use Rattle.als_analysis.specs.Noted.{Table}
use Rattle.als_analysis.proofs.KeptSteps.{absent-place}
use Rattle.als_analysis.proofs.trans_table.TransTable.find_by_search.Goals as goal

pub returns-then-at-entries-clause-none : goal.returns-then-at-entries-clause-none
returns-then-at-entries-clause-none c =
    let xs = c.self.inside.entries.items in
    let t = c.args.trans.0 in
    let p = c.place_of-at.result in
    let same : c.as_slice-entries.result.now ≡ xs = c.as_slice-entries.ensures.value in
    let place = subst (λ (zs : List OpenRow). IsPlace zs t p) same c.place_of-at.ensures in
    let past : length c.as_slice-entries.result.now ≤ p = c.if-at-entries.true in
    let all : length c.as_slice-entries.result.now ≡ length xs = ap (λ (zs : List OpenRow). length zs) same in
    subst (λ (t' : Table). is_among (numbers t'.rows) t ≡ false) c.self.view_is (absent-place xs t p c.self.invariant.rising place (λ o lt q. absurd (omega arith)))

pub returns-then-row-trans-clause-none : goal.returns-then-row-trans-clause-none
returns-then-row-trans-clause-none c =
    let xs = c.self.inside.entries.items in
    let t = c.args.trans.0 in
    let p = c.place_of-at.result in
    let e = fresh_open 0 in
    let same : c.as_slice-entries.result.now ≡ xs = c.as_slice-entries.ensures.value in
    let place = subst (λ (zs : List OpenRow). IsPlace zs t p) same c.place_of-at.ensures in
    let row : c.row-row.result.trans.0 ≡ (get_or xs p e).row.trans.0 = ap (λ (r : TransactionRow). r.trans.0) c.row-row.ensures ∙ ap (λ (zs : List OpenRow). (get_or zs p e).row.trans.0) same in
    subst (λ (t' : Table). is_among (numbers t'.rows) t ≡ false) c.self.view_is (absent-place xs t p c.self.invariant.rising place (λ o lt q.
    c.if-row-trans.true (row ∙ ap (λ (o : OpenRow). o.row.trans.0) (get_or_default xs p e o lt) ∙ q)))
