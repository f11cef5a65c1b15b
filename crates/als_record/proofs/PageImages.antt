-- What a page's slots have, where redo has done all of the page's changes, is what their keys have now.
use Rattle.std.proofs.Common.{◌≡◌, ℕ, ◌==◌, ◌<◌, nat_le, nat_lt, true, List, [], ◌∷◌, length, get_or, set, filter, filter_map, fold, None, refl, sym, ap, ◌∙◌, inl, inr, arith, length-set, get_or-set_other}
use Rattle.std.proofs.lemmas.Bool.{cases_Bool, eqb-true, eq-eqb, false≢true, ltb-false, le-leb}
use Rattle.std.proofs.lemmas.List.{get_or-replicate}
use Rattle.std.proofs.lemmas.Grind.{get_or-set_at}
use Rattle.als_record.specs.declared.change.Change.{Change}
use Rattle.als_record.specs.declared.key.Key.{Key}
use Rattle.als_record.specs.declared.record.Record.{Record}
use Rattle.als_record.specs.Pages.{change_of, PageState, empty_page, redone, changes_on, page_at, changes_above}
use Rattle.als_record.specs.Images.{image_after, image_now}

-- the changes up to an LSN are all, where none is above it
filter-all : (q : ℕ) (cs : List Change) → filter (λ c. nat_lt q c.lsn.0) cs ≡ [] → filter (λ c. nat_le c.lsn.0 q) cs ≡ cs
filter-all q [] e = refl
filter-all q (c ∷ cs) e = elim (cases_Bool (nat_lt q c.lsn.0)) [
  | inl y ↦ let f : c ∷ filter (λ c. nat_lt q c.lsn.0) cs ≡ [] = (rw y at e) in absurd (cc f)
  | inr y ↦
      let f : filter (λ c. nat_lt q c.lsn.0) cs ≡ [] = (rw y at e) in
      let l : nat_le c.lsn.0 q ≡ true = le-leb c.lsn.0 q (ltb-false q c.lsn.0 y) in
      rw l (ap (λ cs. c ∷ cs) (filter-all q cs f))
]

-- one change after another, seen at one slot
redone-slot : (k : Key) (page : PageState) → k.slot < length page.slots → (cs : List Change) → get_or (fold redone page (filter (λ c. c.key.page == k.page) cs)).slots k.slot None ≡ fold (image_after k) (get_or page.slots k.slot None) cs
redone-slot k page lt [] = refl
redone-slot k page lt (c ∷ cs) = elim (cases_Bool (c.key.page == k.page)) [
  | inr y ↦ simp y (redone-slot k page lt cs)
  | inl y ↦ elim (cases_Bool (c.key.slot == k.slot)) [
    | inl z ↦
        let q : c.key.slot ≡ k.slot = eqb-true c.key.slot k.slot z in
        let here : get_or (set page.slots c.key.slot c.after) k.slot None ≡ c.after = get_or-set_at page.slots c.key.slot k.slot c.after None (sym q) (let m : c.key.slot < length page.slots = omega arith in m) in
        simp (y, z) (redone-slot k (redone page c) (rw length-set lt) cs ∙ ap (λ i. fold (image_after k) i cs) here)
    | inr z ↦
        let there : get_or (set page.slots c.key.slot c.after) k.slot None ≡ get_or page.slots k.slot None = get_or-set_other page.slots c.key.slot k.slot c.after None (λ p. false≢true (sym z ∙ eq-eqb c.key.slot k.slot (sym p))) in
        simp (y, z) (redone-slot k (redone page c) (rw length-set lt) cs ∙ ap (λ i. fold (image_after k) i cs) there)
  ]
]

pub page_at-image_now : (log : List Record) (k : Key) (q : ℕ) → k.slot < 15 → changes_above log k.page q ≡ [] → get_or (page_at log k.page q).slots k.slot None ≡ image_now log k
unfolding page_at changes_above changes_on image_now
page_at-image_now log k q lt e =
    ap (λ cs. get_or (fold redone empty_page cs).slots k.slot None) (filter-all q (filter (λ c. c.key.page == k.page) (filter_map change_of log)) e)
    ∙ redone-slot k empty_page lt (filter_map change_of log)
    ∙ ap (λ i. fold (image_after k) i (filter_map change_of log)) (get_or-replicate 15 k.slot None None lt)
