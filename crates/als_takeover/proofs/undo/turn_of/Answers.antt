use Rattle.std.proofs.Common.{◌≡◌, ◌≤◌, ◌<◌, false, inl, inr, get_or, length, sym, ap, subst, ◌∙◌, arith, below_more}
use Rattle.std.proofs.lemmas.Bool.{cases_eq}
use Rattle.std.proofs.lemmas.List.{get_or_default}
use Rattle.als_analysis.specs.declared.open_row.OpenRow.{OpenRow}
use Rattle.als_analysis.specs.Open.{fresh_open}
use Rattle.als_takeover.specs.Next.{is_over, cursor_in}
use Rattle.als_takeover.proofs.Turns.{turn-over, turn-top}
use Rattle.als_takeover.proofs.undo.turn_of.Goals.{then-top-here, else-top-here}
use Rattle.als_takeover.proofs.undo.turn_of.Goals as goal

pub returns-then-is_finished : goal.returns-then-is_finished
returns-then-is_finished c =
    let rows = c.args.rows.now in
    let at = c.loop-at.at in
    turn-over rows at c.loop-at-test.true c.loop-at.invariant.none (λ d. ap is_over (get_or_default rows at d (fresh_open 0) c.loop-at-test.true) ∙ sym c.is_finished.ensures ∙ c.if-is_finished.true)

pub returns : goal.returns
returns c =
    let rows = c.args.rows.now in
    let some : 0 < c.loop-at.at = omega (arith, c.requires, c.loop-at-test.false) in
    let is = c.loop-at.invariant.is some in
    let within : c.loop-at.greatest < length rows = omega (arith, is.0, c.loop-at.auto.at-end) in
    turn-top rows c.loop-at.greatest within (λ d k lt. c.loop-at.invariant.none d k (omega (arith, lt, c.loop-at-test.false)))
    (λ d k lt. subst (λ n. cursor_in (get_or rows k d).row ≤ n) (sym (is.1 d)) (c.loop-at.invariant.below d k (omega (arith, lt, c.loop-at-test.false))))

pub loop-at-preserved : goal.loop-at-preserved
loop-at-preserved c =
    let rows = c.args.rows.now in
    let at = c.loop-at.at in
    let inv = c.loop-at.invariant in
    let here = c.cursor_of-here.result in
    let top = c.if-top-here.top in
    let first = c.if-top-here.greatest in
    let same : (d : OpenRow) → get_or rows at d ≡ get_or rows at (fresh_open 0) = λ d. get_or_default rows at d (fresh_open 0) c.loop-at-test.true in
    let over : (d : OpenRow) → is_over (get_or rows at d) ≡ false = λ d. ap is_over (same d) ∙ sym c.is_finished.ensures ∙ c.if-is_finished.false in
    let goes : (d : OpenRow) → cursor_in (get_or rows at d).row ≡ here = λ d. ap (λ (o : OpenRow). cursor_in o.row) (same d) ∙ sym (c.cursor_of-here.ensures ∙ ap cursor_in c.row.ensures) in
    elim c.if-top-here.branch [
      | then-top-here w ↦ record {
        none = λ d. below_more (λ k. is_over (get_or rows k d) ≡ false) at (inv.none d) (over d);
        below = λ d. below_more (λ k. cursor_in (get_or rows k d).row ≤ top) at (λ k h. omega (arith, inv.below d k h, w.if-top-here, w.top-is)) (omega (arith, goes d, w.top-is));
        start = λ z. absurd (omega (arith, z));
        is = λ l. (omega (arith, w.greatest-is), λ d. subst (λ g. cursor_in (get_or rows g d).row ≡ top) (sym w.greatest-is) (goes d ∙ sym w.top-is));
      }
      | else-top-here w ↦ record {
        none = λ d. below_more (λ k. is_over (get_or rows k d) ≡ false) at (inv.none d) (over d);
        below = λ d. below_more (λ k. cursor_in (get_or rows k d).row ≤ top) at (λ k h. omega (arith, inv.below d k h, w.top-is)) (omega (arith, goes d, w.if-top-here, w.top-is));
        start = λ z. absurd (omega (arith, z));
        is = λ l. elim (cases_eq at 0) [
          | inl z ↦
              let s = inv.start z in
              (omega (arith, w.greatest-is, s.0), λ d. subst (λ g. cursor_in (get_or rows g d).row ≡ top) (z ∙ sym s.0 ∙ sym w.greatest-is) (goes d ∙ omega (arith, w.if-top-here, w.top-is, s.1)))
          | inr n ↦
              let s = inv.is (omega arith) in
              (omega (arith, w.greatest-is, s.0), λ d. subst (λ g. cursor_in (get_or rows g d).row ≡ top) (sym w.greatest-is) (s.1 d ∙ sym w.top-is))
        ];
      }
    ]
