-- A log of pages, and what is in doubt behind it: that goes on from the log of which the pages are.
use Rattle.std.proofs.Common.{◌≡◌, ℕ, ◌==◌, ◌<◌, ◌≤◌, ◌^◌, Bool, true, false, cond, not, ◌&&◌, ◌||◌, ◌⊎◌, List, [], ◌∷◌, ◌++◌, map, filter, find, flat_map, fold, Option, Some, refl, sym, ap, ◌∙◌, inl, inr, subst, arith, append_assoc, append-nil}
use Rattle.std.specs.List.{list_any, AllByRecursion}
use Rattle.std.proofs.lemmas.Bool.{cases_Bool, eqb-true, false≢true, and_parts, or_parts, or_cases, or_left, or_right}
use Rattle.std.proofs.lemmas.List.Elements.{filter-append}
use Rattle.std.proofs.lemmas.List.Folds.{list_any-append}
use Rattle.std.proofs.lemmas.List.Sums.{fold-append}
use Rattle.als_record.specs.declared.key.Key.{Key}
use Rattle.als_record.specs.declared.record.Record.{Record}
use Rattle.als_record.specs.Spelling.{Image, IsKey}
use Rattle.als_record.specs.LogText.{end_of}
use Rattle.als_record.specs.Transactions.{is_among, to_undo, surviving, is_committed, is_in_doubt, in_doubt, unended, greatest_trans, all_surviving}
use Rattle.als_record.specs.Images.{same_key, is_update_at, image_of_found, won, kept, is_kept}
use Rattle.als_record.specs.Orders.{Apart}
use Rattle.als_record.specs.Tail.{ending}
use Rattle.als_record.specs.Validity.{is_valid, IsValidLog}
use Rattle.als_record.specs.Commits.{Write, commits_of, writes_of, after_write, seen_after}
use Rattle.als_record.proofs.Held.{holds, holds-one}
use Rattle.als_record.proofs.Numbers.{eqb-refl}
use Rattle.als_record.proofs.Records.{in_doubt_parts, has_ended-unended}
use Rattle.als_record.proofs.SeenCommits.{found_or, fold-writes, seen_after-commits_of}
use Rattle.als_record.proofs.Sound.{is_closed, Sound-valid}
use Rattle.als_record.proofs.Standing.{Covers}
use Rattle.als_record.proofs.Survivors.{is_by, all_surviving-by}
use Rattle.als_record.proofs.Unended.{Apart-in_doubt, is_among-in_doubt, unended-in_doubt}
use Rattle.als_lookback.specs.Doubts.{Doubt, doubt_in, doubts_in}
use Rattle.als_renew.specs.Carried.{numbers, is_written, carried, MayCarry}
use Rattle.als_renew.proofs.Carries.{Carries, carries, carried_fits, keeps_writes}
use Rattle.als_renew.proofs.Doubts.{written-holds, may_carry, open_doubt, All-in_doubt}

-- ---- lists

numbers-are : (log : List Record) (ts : List ℕ) → numbers (map (doubt_in log) ts) ≡ ts
numbers-are log [] = refl
numbers-are log (t ∷ ts) = ap (λ xs. t ∷ xs) (numbers-are log ts)

-- what holds of each holds of one among them
one-of : (P : Doubt → Type 0) (log : List Record) (ts : List ℕ) (t : ℕ) → AllByRecursion P (map (doubt_in log) ts) → is_among ts t ≡ true → P (doubt_in log t)
one-of P log [] t a e = absurd (false≢true e)
one-of P log (x ∷ ts) t a e = elim (or_cases (x == t) (is_among ts t) e) [
  | inl y ↦ subst (λ n. P (doubt_in log n)) (eqb-true x t y) a.0
  | inr y ↦ one-of P log ts t a.1 y
]

above-all : (least most : ℕ) → least ≤ most → (ts : List ℕ) → AllByRecursion (λ t. most < t) ts → AllByRecursion (λ t. least < t) ts
above-all least most le [] a = tt
above-all least most le (t ∷ ts) a = ((let h : most < t = a.0 in omega arith), above-all least most le ts a.1)

-- ---- what a takeover keeps of a log: what has won, and on top of it what is in doubt

module _ (log : List Record) (v : is_valid log ≡ true) (k : Key) where
  abbrev keeps : Record → Bool
  keeps u = is_update_at k u.body && is_kept log u.trans.0

  abbrev wins : Record → Bool
  wins u = is_update_at k u.body && is_committed log u.trans.0

  abbrev doubts : Record → Bool
  doubts u = is_update_at k u.body && is_in_doubt log u.trans.0

  undoubted : (us : List Record) → list_any doubts us ≡ false → ◌≡◌ {A = Option Record} (find keeps us) (find wins us)
  undoubted [] e = refl
  undoubted (u ∷ us) e =
      let parts : (doubts u ≡ false) × (list_any doubts us ≡ false) = or_parts (doubts u) (list_any doubts us) e in
      ap (λ (b : Bool). cond b (Some u) (find keeps us)) (one (is_update_at k u.body) (is_committed log u.trans.0) (is_in_doubt log u.trans.0) parts.0)
      ∙ ap (λ (o : Option Record). cond (wins u) (Some u) o) (undoubted us parts.1)
    where
      one : (a c d : Bool) → (a && d) ≡ false → (a && (c || d)) ≡ (a && c)
      one true true false e = refl
      one true false false e = refl
      one true c true e = absurd (false≢true (sym e))
      one false c d e = refl

  not_closed : (t : ℕ) → is_in_doubt log t ≡ true → is_closed log t ≡ false
  unfolding is_closed
  not_closed t d =
      let parts = in_doubt_parts log t d in
      rw (parts.2, has_ended-unended log t parts.0) refl

  none_below : (u : Record) (us : List Record) → AllByRecursion (λ v. is_update_at k v.body ≡ true → (v.trans.0 == u.trans.0) ≡ false → is_closed log v.trans.0 ≡ true) us
      → is_in_doubt log u.trans.0 ≡ false → list_any doubts us ≡ false
  none_below u [] a n = refl
  none_below u (x ∷ us) a n = elim (cases_Bool (doubts x)) [
    | inr y ↦ rw y (none_below u us a.1 n)
    | inl y ↦
        let parts : (is_update_at k x.body ≡ true) × (is_in_doubt log x.trans.0 ≡ true) = and_parts (is_update_at k x.body) (is_in_doubt log x.trans.0) y in
        elim (cases_Bool (x.trans.0 == u.trans.0)) [
          | inl z ↦ absurd (false≢true (sym n ∙ ap (is_in_doubt log) (sym (eqb-true x.trans.0 u.trans.0 z)) ∙ parts.1))
          | inr z ↦ absurd (false≢true (sym (not_closed x.trans.0 parts.1) ∙ a.0 parts.0 z))
        ]
  ]

  or-true : (c : Bool) → (c || true) ≡ true
  or-true true = refl
  or-true false = refl

  in_doubt_first : (us : List Record) → Covers (is_closed log) us → list_any doubts us ≡ true → ◌≡◌ {A = Option Record} (find keeps us) (find doubts us)
  in_doubt_first [] c e = refl
  in_doubt_first (u ∷ us) c e = elim (cases_Bool (is_update_at k u.body)) [
    | inr y ↦ rw y (in_doubt_first us c.1 (rw y at e))
    | inl y ↦ elim (cases_Bool (is_in_doubt log u.trans.0)) [
      | inl z ↦ rw (y, z, or-true (is_committed log u.trans.0)) refl
      | inr z ↦ absurd (false≢true (sym (none_below u us (c.0 k y) z) ∙ (rw (y, z) at e)))
    ]
  ]

  -- ---- writes that miss the key change nothing

  missed : (ws : List Write) (image : Image) → is_written ws k ≡ false → fold (after_write k) image ws ≡ image
  missed [] image e = refl
  missed (w ∷ ws) image e =
      let p : (same_key w.key k ≡ false) × (is_written ws k ≡ false) = or_parts (same_key w.key k) (is_written ws k) e in
      ap (λ (b : Bool). fold (after_write k) (cond b w.after image) ws) p.0 ∙ missed ws image p.1

  abbrev all_writes : List ℕ → List Write
  all_writes ts = flat_map (λ (d : Doubt). d.writes) (map (doubt_in log) ts)

  missed_all : (ts : List ℕ) (image : Image) → AllByRecursion (λ t. holds log t k ≡ false) ts → fold (after_write k) image (all_writes ts) ≡ image
  missed_all [] image a = refl
  missed_all (t ∷ ts) image a =
      fold-append (after_write k) image (writes_of log t) (all_writes ts)
      ∙ ap (λ (i : Image). fold (after_write k) i (all_writes ts)) (missed (writes_of log t) image (written-holds log t k ∙ a.0))
      ∙ missed_all ts image a.1

  -- those of one that holds the key give it the image that this one wrote last
  given : (t : ℕ) (image : Image) → fold (after_write k) image (writes_of log t) ≡ found_or image (find (λ u. is_update_at k u.body) (to_undo log t))
  unfolding writes_of surviving
  given t image = fold-writes k image (to_undo log t)

  -- ---- who holds it

  -- nobody in doubt holds the key: there is no such update
  none_holds : ((t : ℕ) → is_in_doubt log t ≡ true → holds log t k ≡ false) → (us : List Record) → ((t : ℕ) → is_in_doubt log t ≡ true → list_any (λ u. is_update_at k u.body) (filter (is_by t) us) ≡ false) → list_any doubts us ≡ false
  none_holds n [] a = refl
  none_holds n (u ∷ us) a = elim (cases_Bool (doubts u)) [
    | inr y ↦ rw y (none_holds n us (λ t d. below t (a t d)))
    | inl y ↦
        let p : (is_update_at k u.body ≡ true) × (is_in_doubt log u.trans.0 ≡ true) = and_parts (is_update_at k u.body) (is_in_doubt log u.trans.0) y in
        let f : list_any (λ u. is_update_at k u.body) (filter (is_by u.trans.0) (u ∷ us)) ≡ false = a u.trans.0 p.1 in
        absurd (false≢true (sym f ∙ rw (eqb-refl u.trans.0, p.0) refl))
  ]
    where
      below : (t : ℕ) → list_any (λ u. is_update_at k u.body) (filter (is_by t) (u ∷ us)) ≡ false → list_any (λ u. is_update_at k u.body) (filter (is_by t) us) ≡ false
      below t e = elim (cases_Bool (u.trans.0 == t)) [
        | inl w ↦ (or_parts (is_update_at k u.body) (list_any (λ u. is_update_at k u.body) (filter (is_by t) us)) (rw w at e)).1
        | inr w ↦ (rw w at e)
      ]

  -- one in doubt holds it: the first such update is the first of its own
  module _ (t : ℕ) (d : is_in_doubt log t ≡ true) (h : holds log t k ≡ true) where
    alone : (u : Record) → list_any (λ x. is_update_at k x.body) (to_undo log u.trans.0) ≡ true → is_in_doubt log u.trans.0 ≡ true → u.trans.0 ≡ t
    alone u a e = holds-one log v k u.trans.0 t (open_doubt log u.trans.0 e) (open_doubt log t d) a h

    first_own : (us : List Record) → AllByRecursion (λ u. is_update_at k u.body ≡ true → is_in_doubt log u.trans.0 ≡ true → u.trans.0 ≡ t) us
        → ◌≡◌ {A = Option Record} (find doubts us) (find (λ u. is_update_at k u.body) (filter (is_by t) us))
    first_own [] a = refl
    first_own (u ∷ us) a = elim (cases_Bool (u.trans.0 == t)) [
      | inl y ↦
          let q : is_in_doubt log u.trans.0 ≡ true = ap (is_in_doubt log) (eqb-true u.trans.0 t y) ∙ d in
          rw (y, q) (ap (λ (o : Option Record). cond (is_update_at k u.body && true) (Some u) o) (first_own us a.1) ∙ and_one (is_update_at k u.body))
      | inr y ↦ elim (cases_Bool (doubts u)) [
        | inr z ↦ rw (y, z) (first_own us a.1)
        | inl z ↦
            let p : (is_update_at k u.body ≡ true) × (is_in_doubt log u.trans.0 ≡ true) = and_parts (is_update_at k u.body) (is_in_doubt log u.trans.0) z in
            absurd (false≢true (sym y ∙ ap (λ n. n == t) (a.0 p.0 p.1) ∙ eqb-refl t))
      ]
    ]
      where
        and_one : (b : Bool) → ◌≡◌ {A = Option Record} (cond (b && true) (Some u) (find (λ u. is_update_at k u.body) (filter (is_by t) us))) (cond b (Some u) (find (λ u. is_update_at k u.body) (filter (is_by t) us)))
        and_one true = refl
        and_one false = refl

    has_one : (us : List Record) → list_any (λ u. is_update_at k u.body) (filter (is_by t) us) ≡ true → list_any doubts us ≡ true
    has_one [] e = absurd (false≢true e)
    has_one (u ∷ us) e = elim (cases_Bool (u.trans.0 == t)) [
      | inr y ↦ or_right (doubts u) (list_any doubts us) (has_one us (rw y at e))
      | inl y ↦ elim (or_cases (is_update_at k u.body) (list_any (λ u. is_update_at k u.body) (filter (is_by t) us)) (rw y at e)) [
        | inr z ↦ or_right (doubts u) (list_any doubts us) (has_one us z)
        | inl z ↦
            let q : is_in_doubt log u.trans.0 ≡ true = ap (is_in_doubt log) (eqb-true u.trans.0 t y) ∙ d in
            or_left (doubts u) (list_any doubts us) (rw (z, q) refl)
      ]
    ]

    -- each update of the key is among those of its own transaction
    members : (before left : List Record) → AllByRecursion (λ u. is_update_at k u.body ≡ true → list_any (λ x. is_update_at k x.body) (filter (is_by u.trans.0) (before ++ left)) ≡ true) left
    members before [] = tt
    members before (u ∷ left) = (
      (λ e.
          ap (list_any (λ x. is_update_at k x.body)) (filter-append (is_by u.trans.0) before (u ∷ left))
          ∙ list_any-append (λ x. is_update_at k x.body) (filter (is_by u.trans.0) before) (filter (is_by u.trans.0) (u ∷ left))
          ∙ or_right (list_any (λ x. is_update_at k x.body) (filter (is_by u.trans.0) before)) (list_any (λ x. is_update_at k x.body) (filter (is_by u.trans.0) (u ∷ left))) (rw (eqb-refl u.trans.0, e) refl)),
      subst (λ us. AllByRecursion (λ u. is_update_at k u.body ≡ true → list_any (λ x. is_update_at k x.body) (filter (is_by u.trans.0) us) ≡ true) left) (append_assoc before (u ∷ []) left) (members (before ++ u ∷ []) left),
    )

    own_all : (us : List Record) → AllByRecursion (λ u. is_update_at k u.body ≡ true → list_any (λ x. is_update_at k x.body) (filter (is_by u.trans.0) (all_surviving log)) ≡ true) us
        → AllByRecursion (λ u. is_update_at k u.body ≡ true → is_in_doubt log u.trans.0 ≡ true → u.trans.0 ≡ t) us
    own_all [] a = tt
    own_all (u ∷ us) a = ((λ e f. alone u (sym (ap (list_any (λ x. is_update_at k x.body)) (all_surviving-by u.trans.0 log)) ∙ a.0 e) f), own_all us a.1)

    abbrev last_one : Image
    last_one = image_of_found (find (λ u. is_update_at k u.body) (to_undo log t))

    kept_one : kept log k ≡ last_one
    unfolding kept
    kept_one =
        ap image_of_found (in_doubt_first (all_surviving log) (Sound-valid log v).covers (has_one (all_surviving log) (ap (list_any (λ u. is_update_at k u.body)) (all_surviving-by t log) ∙ h)))
        ∙ ap image_of_found (first_own (all_surviving log) (own_all (all_surviving log) (members [] (all_surviving log))))
        ∙ ap (λ us. image_of_found (find (λ u. is_update_at k u.body) us)) (all_surviving-by t log)

    found-any : (us : List Record) (image : Image) → list_any (λ u. is_update_at k u.body) us ≡ true → found_or image (find (λ u. is_update_at k u.body) us) ≡ image_of_found (find (λ u. is_update_at k u.body) us)
    found-any [] image e = absurd (false≢true e)
    found-any (u ∷ us) image e = elim (cases_Bool (is_update_at k u.body)) [
      | inl y ↦ rw y refl
      | inr y ↦ rw y (found-any us image (rw y at e))
    ]

    others : (ts : List ℕ) → is_among ts t ≡ false → AllByRecursion (λ x. is_in_doubt log x ≡ true) ts → AllByRecursion (λ x. holds log x k ≡ false) ts
    others [] n a = tt
    others (x ∷ ts) n a =
        let p : ((x == t) ≡ false) × (is_among ts t ≡ false) = or_parts (x == t) (is_among ts t) n in (
          elim (cases_Bool (holds log x k)) [
            | inr y ↦ y
            | inl y ↦ absurd (false≢true (sym p.0 ∙ ap (λ n. n == t) (holds-one log v k x t (open_doubt log x a.0) (open_doubt log t d) y h) ∙ eqb-refl t))
          ],
          others ts p.1 a.1,
        )

    fold_one : (ts : List ℕ) (image : Image) → is_among ts t ≡ true → Apart ts → AllByRecursion (λ x. is_in_doubt log x ≡ true) ts → fold (after_write k) image (all_writes ts) ≡ last_one
    fold_one [] image m a f = absurd (false≢true m)
    fold_one (x ∷ ts) image m a f = elim (cases_Bool (x == t)) [
      | inl y ↦
          let q : x ≡ t = eqb-true x t y in
          fold-append (after_write k) image (writes_of log x) (all_writes ts)
          ∙ missed_all ts (fold (after_write k) image (writes_of log x)) (others ts (ap (is_among ts) (sym q) ∙ a.0) f.1)
          ∙ ap (λ n. fold (after_write k) image (writes_of log n)) q
          ∙ given t image
          ∙ found-any (to_undo log t) image h
      | inr y ↦
          let p : holds log x k ≡ false = (others (x ∷ []) (rw y refl) (f.0, tt)).0 in
          fold-append (after_write k) image (writes_of log x) (all_writes ts)
          ∙ ap (λ (i : Image). fold (after_write k) i (all_writes ts)) (missed (writes_of log x) image (written-holds log x k ∙ p))
          ∙ fold_one ts image (rw y at m) a.1 f.1
    ]

  -- ---- so it is the fold

  holder_in : (ts : List ℕ) → AllByRecursion (λ x. is_in_doubt log x ≡ true) ts → (AllByRecursion (λ x. holds log x k ≡ false) ts) ⊎ ((t : ℕ) × (is_among ts t ≡ true) × (is_in_doubt log t ≡ true) × (holds log t k ≡ true))
  holder_in [] a = inl tt
  holder_in (x ∷ ts) a = elim (cases_Bool (holds log x k)) [
    | inl y ↦ inr (x, rw (eqb-refl x) refl, a.0, y)
    | inr y ↦ elim (holder_in ts a.1) [
      | inl n ↦ inl (y, n)
      | inr z ↦ inr (z.0, or_right (x == z.0) (is_among ts z.0) z.1, z.2, z.3)
    ]
  ]

  pub kept-doubts : kept log k ≡ fold (after_write k) (won log k) (flat_map (λ (d : Doubt). d.writes) (doubts_in log))
  unfolding kept won
  kept-doubts = elim (holder_in (in_doubt log) (All-in_doubt log)) [
    | inl n ↦
        ap image_of_found (undoubted (all_surviving log) (none_holds (λ t d. nobody t d n) (all_surviving log) (λ t d. ap (list_any (λ u. is_update_at k u.body)) (all_surviving-by t log) ∙ nobody t d n)))
        ∙ sym (missed_all (in_doubt log) (image_of_found (find wins (all_surviving log))) n)
    | inr z ↦ kept_one z.0 z.2 z.3 ∙ sym (fold_one z.0 z.2 z.3 (in_doubt log) (image_of_found (find wins (all_surviving log))) z.1 (Apart-in_doubt log) (All-in_doubt log))
  ]
    where
      nobody : (t : ℕ) → is_in_doubt log t ≡ true → AllByRecursion (λ x. holds log x k ≡ false) (in_doubt log) → holds log t k ≡ false
      nobody t d n = among (in_doubt log) n (is_among-in_doubt log t ∙ d)
        where
          among : (ts : List ℕ) → AllByRecursion (λ x. holds log x k ≡ false) ts → is_among ts t ≡ true → holds log t k ≡ false
          among [] a e = absurd (false≢true e)
          among (x ∷ ts) a e = elim (or_cases (x == t) (is_among ts t) e) [
            | inl y ↦ ap (λ n. holds log n k) (sym (eqb-true x t y)) ∙ a.0
            | inr y ↦ among ts a.1 y
          ]

-- ---- a log of pages, and then the doubts

-- a transaction a page, nothing unended, and numbers up to the page count
pub record IsOfPages (pages : ℕ) (old first : List Record) : Type 0 where
  pub valid : IsValidLog pages first
  pub seen : (k : Key) → IsKey pages k → seen_after (commits_of first) k ≡ seen_after (commits_of old) k
  pub ended : unended first ≡ []
  pub low : greatest_trans first ≤ pages

-- the log goes on from the old one, whatever its numbers are
pub record GoesOn (pages : ℕ) (old first : List Record) : Type 0 where
  pub valid : IsValidLog pages first
  pub seen : (k : Key) → IsKey pages k → seen_after (commits_of first) k ≡ seen_after (commits_of old) k
  pub kept_are : (k : Key) → IsKey pages k → kept first k ≡ kept old k
  pub doubted : in_doubt first ≡ in_doubt old
  pub open_are : unended first ≡ in_doubt old
  pub written : (t : ℕ) → is_in_doubt old t ≡ true → writes_of first t ≡ writes_of old t

module _ (pages : ℕ) (old first : List Record) (l : IsValidLog pages old) (p : IsOfPages pages old first) (above : AllByRecursion (λ t. pages < t) (in_doubt old)) where
  abbrev begun : List Record
  begun = first ++ carried first (doubts_in old)

  pub may : MayCarry pages first (doubts_in old)
  may = may_carry pages old first l p.ended (above-all (greatest_trans first) pages p.low (in_doubt old) above)

  all : Carries first (doubts_in old)
  all = carries pages (doubts_in old) first p.valid.valid may

  no_doubt : in_doubt first ≡ []
  unfolding ending
  no_doubt = sym (unended-in_doubt first (ap (filter (λ t. not (is_in_doubt first t))) p.ended)) ∙ p.ended

  kept_first : (k : Key) → IsKey pages k → kept first k ≡ won old k
  kept_first k is =
      kept-doubts first p.valid.valid k
      ∙ ap (λ ts. fold (after_write k) (won first k) (flat_map (λ (d : Doubt). d.writes) (map (doubt_in first) ts))) no_doubt
      ∙ sym (seen_after-commits_of first p.valid.valid k) ∙ p.seen k is ∙ seen_after-commits_of old l.valid k

  pub keeps_written : (more : List Record) (t : ℕ) → is_valid (begun ++ more) ≡ true → is_in_doubt old t ≡ true → is_in_doubt (begun ++ more) t ≡ true → writes_of (begun ++ more) t ≡ writes_of old t
  keeps_written more t w d still = one-of (λ (x : Doubt). is_in_doubt (begun ++ more) x.trans ≡ true → writes_of (begun ++ more) x.trans ≡ x.writes) old (in_doubt old) t
      (keeps_writes pages (doubts_in old) first more p.valid.valid may w) (is_among-in_doubt old t ∙ d) still

  same_doubts : in_doubt begun ≡ in_doubt old
  same_doubts = all.doubts_are ∙ ap (λ ts. ts ++ numbers (doubts_in old)) no_doubt ∙ numbers-are old (in_doubt old)

  pub goes_on : end_of begun ≤ 2 ^ 64 → GoesOn pages old begun
  goes_on room = record {
    valid = carried_fits pages (doubts_in old) first p.valid may room;
    seen = λ k is. ap (λ cs. seen_after cs k) all.commits ∙ p.seen k is;
    kept_are = λ k is. all.kept_are k ∙ ap (λ (i : Image). fold (after_write k) i (flat_map (λ (d : Doubt). d.writes) (doubts_in old))) (kept_first k is) ∙ sym (kept-doubts old l.valid k);
    doubted = same_doubts;
    open_are = all.unended_are ∙ ap (λ ts. ts ++ numbers (doubts_in old)) p.ended ∙ numbers-are old (in_doubt old);
    written = λ t d. ap (λ log. writes_of log t) (sym (append-nil begun)) ∙ keeps_written [] t (ap is_valid (append-nil begun) ∙ all.valid) d (ap (λ log. is_in_doubt log t) (append-nil begun) ∙ sym (is_among-in_doubt begun t) ∙ ap (λ ts. is_among ts t) same_doubts ∙ is_among-in_doubt old t ∙ d);
  }
