-- The rows of the first pages.
use Rattle.std.proofs.Common.{◌≡◌, ℕ, zero, suc, ◌+◌, ◌<◌, ◌≤◌, List, [], ◌∷◌, ◌++◌, length, get_or, take, Option, Some, None, refl, sym, ap, ◌∙◌, arith, length-append, append-nil}
use Rattle.std.specs.List.{cons_option, enumerate_from, filter_map}
use Rattle.std.specs.Option.{option_map}
use Rattle.als_record.specs.declared.lsn.Lsn.{Lsn}
use Rattle.als_record.specs.declared.rows.LoggedPage.{LoggedPage}
use Rattle.als_dirty.specs.declared.dirty_page.DirtyPage.{DirtyPage}
use Rattle.als_dirty.specs.Rows.{row_of, rows_of}
use Rattle.als_dirty.specs.Entries.{untouched_page, entry_of}

-- these are the rows of so many pages
pub record IsFront (pages : List DirtyPage) (count : ℕ) (rows : List LoggedPage) : Type 0 where
  pub rows_are : rows ≡ rows_of (take count pages)
  pub few : length rows ≤ count

cons_option-append : {A : Type 0} (o : Option A) (xs ys : List A) → cons_option o (xs ++ ys) ≡ cons_option o xs ++ ys
cons_option-append None xs ys = refl
cons_option-append (Some x) xs ys = refl

rows-more : (h : ℕ × DirtyPage → Option LoggedPage) (from : ℕ) (pages : List DirtyPage) (count : ℕ) (e : DirtyPage) → count < length pages → get_or pages count untouched_page ≡ e
    → filter_map h (enumerate_from from (take (suc count) pages)) ≡ filter_map h (enumerate_from from (take count pages)) ++ cons_option (h (from + count, e)) []
rows-more h from [] count e lt is = absurd (omega arith)
rows-more h from (x ∷ pages) zero e lt is = let here : from + 0 ≡ from = omega arith in
    ap (λ (y : DirtyPage). cons_option (h (from, y)) []) is ∙ ap (λ (k : ℕ). cons_option (h (k, e)) []) (sym here)
rows-more h from (x ∷ pages) (suc count) e lt is =
    let below : count < length pages = omega arith in
    let place : from + 1 + count ≡ from + suc count = omega arith in
    ap (λ (rows : List LoggedPage). cons_option (h (from, x)) rows) (rows-more h (from + 1) pages count e below is)
    ∙ cons_option-append (h (from, x)) (filter_map h (enumerate_from (from + 1) (take count pages))) (cons_option (h (from + 1 + count, e)) [])
    ∙ ap (λ (k : ℕ). filter_map h (enumerate_from from (take (suc count) (x ∷ pages))) ++ cons_option (h (k, e)) []) place

-- one page more, by its row
pub front_more : (pages : List DirtyPage) (count : ℕ) (e : DirtyPage) (rows more : List LoggedPage) → count < length pages → entry_of pages count ≡ e
    → more ≡ rows ++ cons_option (row_of (count, e)) [] → IsFront pages count rows → IsFront pages (count + 1) more
front_more pages count e rows more lt is more-is h =
    let one : suc count ≡ count + 1 = omega arith in
    let zero-is : 0 + count ≡ count = omega arith in
    let each = rows-more row_of 0 pages count e lt is in
    let few : length (cons_option (row_of (count, e)) []) ≤ 1 = at_most_one (row_of (count, e)) in
    record {
      rows_are = more-is ∙ ap (λ (rs : List LoggedPage). rs ++ cons_option (row_of (count, e)) []) h.rows_are ∙ ap (λ (k : ℕ). rows_of (take count pages) ++ cons_option (row_of (k, e)) []) (sym zero-is) ∙ sym each ∙ ap (λ (k : ℕ). rows_of (take k pages)) one;
      few = omega (arith, h.few, few, ap length more-is, length-append rows (cons_option (row_of (count, e)) []));
    }
  where
    at_most_one : (o : Option LoggedPage) → length (cons_option o []) ≤ 1
    at_most_one None = omega arith
    at_most_one (Some row) = omega arith

pub front_some : (pages : List DirtyPage) (count : ℕ) (e : DirtyPage) (rows more : List LoggedPage) (lsn : Lsn) → count < length pages → entry_of pages count ≡ e
    → e.synced ≡ Some lsn → more ≡ rows ++ record { page = count; rec_lsn = lsn } ∷ [] → IsFront pages count rows → IsFront pages (count + 1) more
front_some pages count e rows more lsn lt is has more-is h =
    front_more pages count e rows more lt is
    (more-is ∙ ap (λ (n : Option Lsn). rows ++ cons_option (option_map (λ l. record { page = count; rec_lsn = l }) n) []) (sym has)) h

pub front_none : (pages : List DirtyPage) (count : ℕ) (e : DirtyPage) (rows more : List LoggedPage) → count < length pages → entry_of pages count ≡ e
    → e.synced ≡ None → more ≡ rows → IsFront pages count rows → IsFront pages (count + 1) more
front_none pages count e rows more lt is has more-is h =
    front_more pages count e rows more lt is
    (more-is ∙ sym (append-nil rows) ∙ ap (λ (n : Option Lsn). rows ++ cons_option (option_map (λ l. record { page = count; rec_lsn = l }) n) []) (sym has)) h

pub none_from : (o : Option Lsn) → ((lsn : Lsn) → o ≡ Some lsn → ⊥) → o ≡ None
none_from None h = refl
none_from (Some lsn) h = absurd (h lsn refl)
