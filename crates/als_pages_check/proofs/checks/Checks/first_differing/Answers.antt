use Rattle.std.proofs.Common.{rules, ◌≡◌, ◌≤◌, List, Some, length, sym, subst}
use Rattle.std.specs.Prelude.{slice_get}
use Rattle.std.proofs.lemmas.Option.{slice_get-get_or}
use Rattle.als_pages_check.specs.declared.page_check.PageCheck.{PageCheck}
use Rattle.als_pages_check.specs.Checked.{AreChecked, AreSound, IsFirstUnsound}
use Rattle.als_pages_check.proofs.Walking.{agreed-more, first-unsound, all-sound}
use Rattle.als_pages_check.proofs.checks.Checks.first_differing.Goals as goal

pub returns-then-not-agrees-clause-some : goal.returns-then-not-agrees-clause-some
returns-then-not-agrees-clause-some c pages log is_log few checked =
    let items : List PageCheck = c.deref-check-items.result.now in
    let same : items ≡ c.args.self.now.pages.items = c.deref-check-items.ensures.value in
    let here : slice_get items c.loop-check.check-index ≡ Some c.check-item.result = search (rules, slice_get-get_or) in
    subst (λ (xs : List PageCheck). IsFirstUnsound log xs c.loop-check.page) same
    (first-unsound items c.loop-check.check-index c.loop-check.page c.loop-check.invariant c.check-item.result here (search rules) c.agrees.result c.agrees.ensures
    pages log is_log (subst (λ (xs : List PageCheck). length xs ≤ 4294967295) (sym same) few) (subst (λ (xs : List PageCheck). AreChecked xs log) (sym same) checked) (search rules))

pub loop-check-preserved : goal.loop-check-preserved
loop-check-preserved c =
    let items : List PageCheck = c.deref-check-items.result.now in
    let here : slice_get items c.loop-check.check-index ≡ Some c.check-item.result = search (rules, slice_get-get_or) in
    agreed-more items c.loop-check.check-index c.loop-check.page c.loop-check.invariant c.check-item.result here (search rules) c.agrees.result c.agrees.ensures (search rules)
    c.saturating_add-page.result (λ few at. search rules)

pub returns-clause-none : goal.returns-clause-none
returns-clause-none c none pages log is_log few checked =
    let items : List PageCheck = c.deref-check-items.result.now in
    let same : items ≡ c.args.self.now.pages.items = c.deref-check-items.ensures.value in
    subst (λ (xs : List PageCheck). AreSound log xs) same
    (all-sound items c.loop-check.check-index c.loop-check.page c.loop-check.invariant pages log (search rules) is_log
    (subst (λ (xs : List PageCheck). length xs ≤ 4294967295) (sym same) few) (subst (λ (xs : List PageCheck). AreChecked xs log) (sym same) checked))
