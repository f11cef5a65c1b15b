-- Pages that were compared one after another.
use Rattle.std.proofs.Common.{◌≡◌, ℕ, ◌+◌, ◌<◌, ◌≤◌, Bool, true, false, IsTrue, List, length, Some, refl, sym, ap, subst, ◌∙◌, arith, inl, inr}
use Rattle.std.specs.Prelude.{◌↔◌, slice_get}
use Rattle.std.proofs.lemmas.Bool.{cases_lt}
use Rattle.als_record.specs.declared.record.Record.{Record}
use Rattle.als_record.specs.LogText.{IsLog}
use Rattle.als_record.specs.Pages.{IsPageState}
use Rattle.als_pages_check.specs.declared.page_check.PageCheck.{PageCheck}
use Rattle.als_pages_check.specs.Checked.{repeated, HasAgreed, IsChecked, AreChecked, AreSound, IsFirstUnsound}
use Rattle.als_pages_check.proofs.CheckLaws.{get-below}
use Rattle.als_pages_check.proofs.Sound.{repeated-state, agreed-sound, sound-agreed}

-- the page is the next of some, and those before it agree
abbrev pub AgreedBefore : List PageCheck → ℕ → ℕ → Type 0
AgreedBefore items index page = length items ≤ 4294967295 → (page ≡ index)
    × ((k : ℕ) (x : PageCheck) → k < index → slice_get items k ≡ Some x → IsPageState (repeated x) → HasAgreed k x)

-- none before the first
pub agreed-none : (items : List PageCheck) → AgreedBefore items 0 0
agreed-none items few = (refl, λ k x lt here state. absurd (omega (arith, lt)))

-- a page is found by its number alone
same-found : (items : List PageCheck) (k i : ℕ) (x y : PageCheck) → k ≡ i → slice_get items i ≡ Some x → slice_get items k ≡ Some y → x ≡ y
same-found items k i x y at here there = cc (sym here ∙ ap (λ (n : ℕ). slice_get items n) (sym at) ∙ there)

module _ (items : List PageCheck) (i page : ℕ) (before : AgreedBefore items i page) where
  module _ (x : PageCheck) (here : slice_get items i ≡ Some x) (below : i < length items) (b : Bool) (tells : IsPageState (repeated x) → IsTrue b ↔ HasAgreed page x) where
    -- it agrees too
    pub agreed-more : b ≡ true → (next : ℕ) → (length items ≤ 4294967295 → page ≡ i → next ≡ i + 1) → AgreedBefore items (i + 1) next
    agreed-more is next counts few =
        let (at, agreed) = before few in (
          counts few at,
          λ k y lt there state.
              elim (cases_lt k i) [
                | inl earlier ↦ agreed k y earlier there state
                | inr from ↦
                    let same : k ≡ i = omega (arith, lt, from) in
                    let found : x ≡ y = same-found items k i x y same here there in
                    let own : HasAgreed page x = (tells (subst (λ (v : PageCheck). IsPageState (repeated v)) (sym found) state)).0 is in
                    subst (λ (n : ℕ). HasAgreed n y) (at ∙ sym same) (subst (λ (v : PageCheck). HasAgreed page v) found own)
              ],
        )

    module _ (pages : ℕ) (log : List Record) (is_log : IsLog pages log) (few : length items ≤ 4294967295) (checked : AreChecked items log) where
      -- it is the first that does not
      pub first-unsound : b ≡ false → IsFirstUnsound log items page
      first-unsound is =
          let (at, agreed) = before few in (
            (λ k y lt there.
                agreed-sound pages log is_log k y (checked k y there)
                (agreed k y (omega (arith, at, lt)) there (repeated-state pages log is_log k y (checked k y there)))),
            (λ y there sound.
                let found : x ≡ y = same-found items page i x y at here there in
                let known : IsChecked log page y = checked page y there in
                let state : IsPageState (repeated y) = repeated-state pages log is_log page y known in
                let own : HasAgreed page x = subst (λ (v : PageCheck). HasAgreed page v) (sym found) (sound-agreed pages log is_log page y known sound) in
                let true' : b ≡ true = (tells (subst (λ (v : PageCheck). IsPageState (repeated v)) (sym found) state)).1 own in
                absurd (cc (true', is))),
            omega (arith, at, below),
          )

  -- all were compared
  pub all-sound : (pages : ℕ) (log : List Record) → length items ≤ i → IsLog pages log → length items ≤ 4294967295 → AreChecked items log → AreSound log items
  all-sound pages log end is_log few checked k y there =
      let (at, agreed) = before few in
      let lt : k < length items = get-below items k y there in
      agreed-sound pages log is_log k y (checked k y there)
      (agreed k y (omega (arith, lt, end)) there (repeated-state pages log is_log k y (checked k y there)))
