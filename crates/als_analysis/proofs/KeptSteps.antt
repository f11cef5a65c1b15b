-- The table as it is kept, through one more record: an entry replaced, added or taken away.
use Rattle.std.proofs.Common.{◌≡◌, ℕ, ◌+◌, ◌-◌, ◌%◌, ◌^◌, ◌≤◌, ◌<◌, false, List, [], ◌∷◌, ◌++◌, length, get_or, set, map, inl, inr, refl, sym, ap, ◌∙◌, subst, arith, zero, suc, le_of_suc-le-suc, not-suc-le-zero}
use Rattle.std.specs.List.{All, sum_by, remove}
use Rattle.std.proofs.lemmas.Bool.{cases_eq, cases_lt, ne_eqb}
use Rattle.std.proofs.lemmas.List.{length-map, length-set, length_push, get_or-set_same, get_or-set_other, get_or_default, get_or-map}
use Rattle.std.proofs.lemmas.List.Sums.{sum_by_push, sum_by-set, sum_by-remove, get_or-le-sum_by}
use Rattle.std.proofs.lemmas.List.Quantifiers.{all_pairs_push, all_pairs_remove}
use Rattle.std.proofs.lemmas.List.Edits.{length-remove}
use Rattle.std.specs.List.Sorted.{IsNonDecreasingBy}
use Rattle.als_record.specs.declared.transaction_row.TransactionRow.{TransactionRow}
use Rattle.als_record.specs.Transactions.{is_among}
use Rattle.als_record.specs.Table.{fresh_row}
use Rattle.als_analysis.specs.declared.open_row.OpenRow.{OpenRow}
use Rattle.als_analysis.specs.Open.{owed, rows_of}
use Rattle.als_analysis.proofs.Counting.{wrapped-add, wrapped-sub, replaced}
use Rattle.als_analysis.specs.Kept.{IsRising, IsPlace, numbers, IsKept}

pub rising-sorted : (xs : List OpenRow) → IsRising xs → IsNonDecreasingBy (λ o. o.row.trans.0) xs
rising-sorted xs r i j d le lt = elim (cases_lt i j) [
  | inl l ↦ let h : (get_or xs i d).row.trans.0 < (get_or xs j d).row.trans.0 = r i j d l lt in omega arith
  | inr g ↦ let e : i ≡ j = omega arith in subst (λ k. (get_or xs i d).row.trans.0 ≤ (get_or xs k d).row.trans.0) e (omega arith)
]

-- the place of a transaction that is not above the first, and of one that is above the last
pub place-first : (xs : List OpenRow) (e : OpenRow) (t : ℕ) → IsRising xs → t ≤ (get_or xs 0 e).row.trans.0 → IsPlace xs t 0
place-first xs e t r le = record {
  within = omega arith;
  below = λ k d lt. absurd (omega arith);
  above = λ k d le' lt. elim (cases_eq k 0) [
    | inl q ↦ let h : t ≤ (get_or xs 0 d).row.trans.0 = subst (λ (o : OpenRow). t ≤ o.row.trans.0) (get_or_default xs 0 e d (omega arith)) le in subst (λ k. t ≤ (get_or xs k d).row.trans.0) (sym q) h
    | inr n ↦
        let z : 0 < k = omega arith in
        let h : t ≤ (get_or xs 0 d).row.trans.0 = subst (λ (o : OpenRow). t ≤ o.row.trans.0) (get_or_default xs 0 e d (omega arith)) le in
        let up : (get_or xs 0 d).row.trans.0 < (get_or xs k d).row.trans.0 = r 0 k d z lt in
        omega arith
  ];
}

pub place-last : (xs : List OpenRow) (e : OpenRow) (t n : ℕ) → IsRising xs → length xs ≡ n + 1 → (get_or xs n e).row.trans.0 < t → IsPlace xs t (length xs)
place-last xs e t n r c lt = record {
  within = omega arith;
  below = λ k d l.
      let h : (get_or xs n d).row.trans.0 < t = subst (λ (o : OpenRow). o.row.trans.0 < t) (get_or_default xs n e d (omega arith)) lt in
      elim (cases_eq k n) [
        | inl q ↦ subst (λ k. (get_or xs k d).row.trans.0 < t) (sym q) h
        | inr ne ↦ let z : k < n = omega arith in let up : (get_or xs k d).row.trans.0 < (get_or xs n d).row.trans.0 = r k n d z (omega arith) in omega arith
      ];
  above = λ k d le l. absurd (omega arith);
}

module _ (xs : List OpenRow) (reserve capacity : ℕ) (k : IsKept xs reserve capacity) where
  module _ (i : ℕ) (d o : OpenRow) (lt : i < length xs) (same : o.row.trans.0 ≡ (get_or xs i d).row.trans.0) where
    trans-set : (x : ℕ) (e : OpenRow) → (get_or (set xs i o) x e).row.trans.0 ≡ (get_or xs x e).row.trans.0
    trans-set x e = elim (cases_eq x i) [
      | inl q ↦ ap (λ x. (get_or (set xs i o) x e).row.trans.0) q ∙ ap (λ (p : OpenRow). p.row.trans.0) (get_or-set_same xs i o e lt) ∙ same ∙ ap (λ (p : OpenRow). p.row.trans.0) (get_or_default xs i d e lt) ∙ ap (λ x. (get_or xs x e).row.trans.0) (sym q)
      | inr n ↦ ap (λ (p : OpenRow). p.row.trans.0) (get_or-set_other xs i x o e n)
    ]

    pub kept-set : IsKept (set xs i o) (((reserve + (2 ^ 64 - owed (get_or xs i d) % 2 ^ 64)) % 2 ^ 64 + owed o % 2 ^ 64) % 2 ^ 64) capacity
    kept-set = record {
      rising = λ a b e l m. let n : length (set xs i o) ≡ length xs = length-set xs i o in let h : (get_or xs a e).row.trans.0 < (get_or xs b e).row.trans.0 = k.rising a b e l (omega arith) in let p : (get_or (set xs i o) a e).row.trans.0 ≡ (get_or xs a e).row.trans.0 = trans-set a e in let q : (get_or (set xs i o) b e).row.trans.0 ≡ (get_or xs b e).row.trans.0 = trans-set b e in omega arith;
      few = let n : length (set xs i o) ≡ length xs = length-set xs i o in omega (arith, k.few);
      counted =
          let s : sum_by owed (set xs i o) + owed (get_or xs i d) ≡ sum_by owed xs + owed o = sum_by-set owed xs i o d lt in
          let m : owed (get_or xs i d) ≤ sum_by owed xs = get_or-le-sum_by owed xs i d lt in
          replaced (sum_by owed xs - owed (get_or xs i d)) (sum_by owed xs) (sum_by owed (set xs i o)) (owed (get_or xs i d)) (owed o) reserve (omega arith) (omega arith) k.counted;
      room = k.room;
    }

  pub kept-push : (o : OpenRow) → All (λ x. x.row.trans.0 < o.row.trans.0) xs → length xs < 256 → IsKept (xs ++ o ∷ []) ((reserve + owed o % 2 ^ 64) % 2 ^ 64) capacity
  kept-push o above few = record {
    rising = all_pairs_push (λ a b. a.row.trans.0 < b.row.trans.0) xs o k.rising above;
    few = let n : length (xs ++ o ∷ []) ≡ length xs + 1 = length_push xs o in omega arith;
    counted = ap (λ n. (n + owed o % 2 ^ 64) % 2 ^ 64) k.counted ∙ wrapped-add (sum_by owed xs) (owed o) ∙ ap (λ n. n % 2 ^ 64) (sym (sum_by_push owed xs o));
    room = k.room;
  }

  pub kept-remove : (i : ℕ) (d : OpenRow) → i < length xs → IsKept (remove xs i) ((reserve + (2 ^ 64 - owed (get_or xs i d) % 2 ^ 64)) % 2 ^ 64) capacity
  kept-remove i d lt = record {
    rising = all_pairs_remove (λ a b. a.row.trans.0 < b.row.trans.0) xs i lt k.rising;
    few = let n : length (remove xs i) + 1 ≡ length xs = length-remove xs i lt in omega (arith, k.few);
    counted = ap (λ n. (n + (2 ^ 64 - owed (get_or xs i d) % 2 ^ 64)) % 2 ^ 64) (k.counted ∙ ap (λ n. n % 2 ^ 64) (sym (sum_by-remove owed xs i d lt))) ∙ wrapped-sub (sum_by owed (remove xs i)) (owed (get_or xs i d));
    room = k.room;
  }

-- ---- maps of lists, by places

module _ {X Y : Type 0} (f : X → Y) where
  pub remove-map : (xs : List X) (i : ℕ) → i < length xs → remove (map f xs) i ≡ map f (remove xs i)
  remove-map [] i lt = absurd (not-suc-le-zero lt)
  remove-map (x ∷ xs) zero lt = refl
  remove-map (x ∷ xs) (suc i) lt = ap (λ ys. f x ∷ ys) (remove-map xs i (le_of_suc-le-suc lt))

-- ---- places and rows

abbrev entry_of : TransactionRow → OpenRow
entry_of row = record { row = row; left = 0; undo_bytes = 0 }

pub place-above : (xs : List OpenRow) (t p : ℕ) → IsPlace xs t p → p ≡ length xs → All (λ row. row.trans.0 < t) (rows_of xs)
place-above xs t p h e k d lt =
    let n : length (rows_of xs) ≡ length xs = length-map xs (λ o. o.row) in
    let l : k < length xs = omega arith in
    subst (λ (row : TransactionRow). row.trans.0 < t) (sym (get_or-map (λ (o : OpenRow). o.row) xs k (entry_of d) d l)) (h.below k (entry_of d) (omega arith))

pub above-place : (xs : List OpenRow) (t p : ℕ) → IsPlace xs t p → All (λ row. row.trans.0 < t) (rows_of xs) → p ≡ length xs
above-place xs t p h a = elim (cases_lt p (length xs)) [
  | inr g ↦ let w : p ≤ length xs = h.within in omega arith
  | inl l ↦
      let n : length (rows_of xs) ≡ length xs = length-map xs (λ o. o.row) in
      let low : t ≤ (get_or xs p (entry_of (fresh_row 0))).row.trans.0 = h.above p (entry_of (fresh_row 0)) (omega arith) l in
      let high : (get_or xs p (entry_of (fresh_row 0))).row.trans.0 < t = subst (λ (row : TransactionRow). row.trans.0 < t) (get_or-map (λ (o : OpenRow). o.row) xs p (entry_of (fresh_row 0)) (fresh_row 0) l) (a p (fresh_row 0) (omega arith)) in
      absurd (omega arith)
]

not-among : (rows : List TransactionRow) (t : ℕ) → ((k : ℕ) (d : TransactionRow) → k < length rows → (get_or rows k d).trans.0 ≡ t → ⊥) → is_among (numbers rows) t ≡ false
not-among [] t h = refl
not-among (row ∷ rest) t h = rw (ne_eqb row.trans.0 t (h 0 row (omega arith))) (not-among rest t (λ k d l. h (suc k) d (omega arith)))

pub absent-place : (xs : List OpenRow) (t p : ℕ) → IsRising xs → IsPlace xs t p → ((o : OpenRow) → p < length xs → (get_or xs p o).row.trans.0 ≡ t → ⊥) → is_among (numbers (rows_of xs)) t ≡ false
absent-place xs t p r h ne = not-among (rows_of xs) t (λ k d lt q.
    let n : length (rows_of xs) ≡ length xs = length-map xs (λ o. o.row) in
    let l : k < length xs = omega arith in
    let e : (get_or xs k (entry_of d)).row.trans.0 ≡ t = ap (λ (row : TransactionRow). row.trans.0) (sym (get_or-map (λ (o : OpenRow). o.row) xs k (entry_of d) d l)) ∙ q in
    elim (cases_lt k p) [
      | inl b ↦ let low : (get_or xs k (entry_of d)).row.trans.0 < t = h.below k (entry_of d) b in omega arith
      | inr b ↦ elim (cases_eq k p) [
        | inl s ↦ ne (entry_of d) (subst (λ k. k < length xs) s l) (subst (λ k. (get_or xs k (entry_of d)).row.trans.0 ≡ t) s e)
        | inr s ↦
            let pk : p < k = omega arith in
            let low : t ≤ (get_or xs p (entry_of d)).row.trans.0 = h.above p (entry_of d) (omega arith) (omega arith) in
            let up : (get_or xs p (entry_of d)).row.trans.0 < (get_or xs k (entry_of d)).row.trans.0 = r p k (entry_of d) pk l in
            omega arith
      ]
    ])
