use Rattle.std.proofs.Common.{◌≡◌, ◌<◌, List, length, sym, ◌∙◌, subst, arith, nat_eq}
use Rattle.std.specs.Prelude.{IsTrue}
use Rattle.std.specs.List.{All}
use Rattle.std.proofs.lemmas.Bool.{eqb-true, eq-eqb}
use Rattle.std.proofs.lemmas.List.{length-map}
use Rattle.als_analysis.specs.declared.open_row.OpenRow.{OpenRow}
use Rattle.als_analysis.specs.Open.{rows_of}
use Rattle.als_analysis.specs.Kept.{IsPlace}
use Rattle.als_analysis.specs.Noted.{Table}
use Rattle.als_analysis.proofs.KeptSteps.{place-above, above-place}
use Rattle.als_analysis.proofs.trans_table.TransTable.can_begin.Goals as goal

pub returns-then-len-lt-TRANSACTION_LIMIT : goal.returns-then-len-lt-TRANSACTION_LIMIT
returns-then-len-lt-TRANSACTION_LIMIT c =
    let xs = c.self.inside.entries.items in
    let t = c.args.trans.0 in
    let p = c.place_of.result in
    let n = c.len-then-len-lt-TRANSACTION_LIMIT.result in
    let place = subst (λ (zs : List OpenRow). IsPlace zs t p) c.as_slice.ensures.value c.place_of.ensures in
    let all : n ≡ length xs = omega (arith, c.len-then-len-lt-TRANSACTION_LIMIT.ensures) in
    let few : length (rows_of xs) < 256 = omega (arith, length-map xs (λ (o : OpenRow). o.row), c.len.ensures, c.if-len-lt-TRANSACTION_LIMIT.true) in
    subst (λ (t' : Table). (IsTrue (nat_eq p n) → (length t'.rows < 256 × All (λ row. row.trans.0 < t) t'.rows)) × ((length t'.rows < 256 × All (λ row. row.trans.0 < t) t'.rows) → IsTrue (nat_eq p n))) c.self.view_is
    (λ e. (few, place-above xs t p place (eqb-true p n e ∙ all)), λ a. eq-eqb p n (above-place xs t p place a.1 ∙ sym all))
