-- What is in doubt in a valid log can be carried behind another one.
use Rattle.std.proofs.Common.{◌≡◌, ℕ, ◌==◌, ◌<◌, ◌≤◌, ◌^◌, Bool, true, false, not, ◌&&◌, ◌||◌, List, [], ◌∷◌, ◌++◌, length, map, filter, filter_map, reverse, refl, sym, ap, ◌∙◌, inl, inr, subst, arith, append_assoc}
use Rattle.std.specs.List.{cons_option, list_any, AllByRecursion}
use Rattle.std.proofs.lemmas.Bool.{cases_Bool, or_right}
use Rattle.std.proofs.lemmas.List.{reverse-append, length-map}
use Rattle.std.proofs.lemmas.List.Folds.{list_any-append}
use Rattle.als_record.specs.declared.key.Key.{Key}
use Rattle.als_record.specs.declared.record.Body.{Body}
use Rattle.als_record.specs.declared.record.Body.TheVariants.{Update, Compensation, Commit, Rollback, End, BeginCheckpoint, EndCheckpoint, Prepare}
use Rattle.als_record.specs.declared.record.Record.{Record}
use Rattle.als_record.specs.Spelling.{IsKey, IsImage, IsBody, IsRecord}
use Rattle.als_record.specs.Transactions.{is_among, survivors_after, to_undo, surviving, is_open, is_in_doubt, is_loser, transactions, unended, in_doubt, greatest_trans, all_surviving}
use Rattle.als_record.specs.Images.{same_key, is_update_at}
use Rattle.als_record.specs.Validity.{is_valid, IsValidLog}
use Rattle.als_record.specs.Commits.{Write, write_of, writes_of}
use Rattle.als_record.specs.Orders.{Rising}
use Rattle.als_record.proofs.Held.{holds, holds-one}
use Rattle.als_record.proofs.Places.{Rising-filter, Rising-transactions}
use Rattle.als_record.proofs.Records.{in_doubt_parts, is_open-over, is_open-is, has_begun-unended}
use Rattle.als_record.proofs.Sound.{Sound-valid}
use Rattle.als_record.proofs.Standing.{same_key-refl}
use Rattle.als_record.proofs.Survivors.{is_by, all_surviving-push, all_surviving-by, all_surviving-nil, log_induction, All-without_newest}
use Rattle.als_record.proofs.Takeover.{length-unended}
use Rattle.als_record.proofs.Unended.{greatest_trans-push, is_among-unended, length-unended_parts}
use Rattle.als_writing.specs.Writing.{is_free}
use Rattle.als_lookback.specs.Doubts.{Doubt, doubt_in, doubts_in}
use Rattle.als_renew.specs.Carried.{is_written, Misses, AreDoubts, AreFree, MayCarry}

-- ---- lists

module _ {X : Type 0} (P : X → Type 0) where
  All-front : (us more : List X) → AllByRecursion P (us ++ more) → AllByRecursion P us
  All-front [] more a = tt
  All-front (u ∷ us) more a = (a.0, All-front us more a.1)

  All-behind : (us more : List X) → AllByRecursion P (us ++ more) → AllByRecursion P more
  All-behind [] more a = a
  All-behind (u ∷ us) more a = All-behind us more a.1

  All-joined : (us more : List X) → AllByRecursion P us → AllByRecursion P more → AllByRecursion P (us ++ more)
  All-joined [] more a b = b
  All-joined (u ∷ us) more a b = (a.0, All-joined us more a.1 b)

  All-reverse : (us : List X) → AllByRecursion P us → AllByRecursion P (reverse us)
  All-reverse [] a = tt
  All-reverse (u ∷ us) a = subst (AllByRecursion P) (sym (reverse-append (u ∷ []) us)) (All-joined (reverse us) (u ∷ []) (All-reverse us a.1) (a.0, tt))

All-filter : {X : Type 0} (P : X → Type 0) (p : X → Bool) (us : List X) → AllByRecursion P us → AllByRecursion P (filter p us)
All-filter P p [] a = tt
All-filter P p (u ∷ us) a = elim (cases_Bool (p u)) [
  | inl y ↦ rw y (a.0, All-filter P p us a.1)
  | inr y ↦ rw y (All-filter P p us a.1)
]

All-passed : (p : ℕ → Bool) (ts : List ℕ) → AllByRecursion (λ t. p t ≡ true) (filter p ts)
All-passed p [] = tt
All-passed p (t ∷ ts) = elim (cases_Bool (p t)) [
  | inl y ↦ rw y (y, All-passed p ts)
  | inr y ↦ rw y (All-passed p ts)
]

any-reverse : {X : Type 0} (p : X → Bool) (us : List X) → list_any p (reverse us) ≡ list_any p us
any-reverse p [] = refl
any-reverse p (u ∷ us) =
    ap (list_any p) (reverse-append (u ∷ []) us)
    ∙ list_any-append p (reverse us) (u ∷ [])
    ∙ ap (λ b. b || (p u || false)) (any-reverse p us)
    ∙ flip (list_any p us) (p u)
  where
    flip : (a b : Bool) → (a || (b || false)) ≡ (b || a)
    flip true true = refl
    flip true false = refl
    flip false true = refl
    flip false false = refl

-- ---- what records are to undo

-- each surviving update is a record of the log
All-surviving : (P : Record → Type 0) (log : List Record) → AllByRecursion P log → AllByRecursion P (all_surviving log)
All-surviving P log = log_induction (λ l. AllByRecursion P l → AllByRecursion P (all_surviving l)) (λ _. rw all_surviving-nil tt) more log
  where
    kinds : (left : List Record) (r : Record) (b : Body) → AllByRecursion P left → P r → AllByRecursion P (survivors_after left r b)
    kinds left r (Update key before after) a p = (p, a)
    kinds left r (Compensation undo_next key after) a p = All-without_newest P r.trans.0 left a
    kinds left r Commit a p = a
    kinds left r Rollback a p = a
    kinds left r End a p = a
    kinds left r BeginCheckpoint a p = a
    kinds left r (EndCheckpoint transactions pages) a p = a
    kinds left r Prepare a p = a

    more : (l : List Record) (r : Record) → (AllByRecursion P l → AllByRecursion P (all_surviving l)) → AllByRecursion P (l ++ r ∷ []) → AllByRecursion P (all_surviving (l ++ r ∷ []))
    more l r h a = subst (AllByRecursion P) (sym (all_surviving-push l r)) (kinds (all_surviving l) r r.body (h (All-front P l (r ∷ []) a)) (All-behind P l (r ∷ []) a).0)

All-to_undo : (P : Record → Type 0) (log : List Record) (t : ℕ) → AllByRecursion P log → AllByRecursion P (to_undo log t)
All-to_undo P log t a = subst (AllByRecursion P) (all_surviving-by t log) (All-filter P (is_by t) (all_surviving log) (All-surviving P log a))

-- ---- what is written

-- what updates write fits, where they do
module _ (pages : ℕ) where
  keys_fit : (us : List Record) → AllByRecursion (IsRecord pages) us → AllByRecursion (λ (w : Write). IsKey pages w.key) (filter_map (λ (u : Record). write_of u.body) us)
  keys_fit [] a = tt
  keys_fit (u ∷ us) a = one (keys_fit us a.1) u.body a.0.body
    where
      one : AllByRecursion (λ (w : Write). IsKey pages w.key) (filter_map (λ (u : Record). write_of u.body) us) → (b : Body) → IsBody pages b → AllByRecursion (λ (w : Write). IsKey pages w.key) (cons_option (write_of b) (filter_map (λ (u : Record). write_of u.body) us))
      one more (Update key before after) f = (f.0, more)
      one more (Compensation undo_next key after) f = more
      one more Commit f = more
      one more Rollback f = more
      one more End f = more
      one more BeginCheckpoint f = more
      one more (EndCheckpoint transactions rows) f = more
      one more Prepare f = more

  images_fit : (us : List Record) → AllByRecursion (IsRecord pages) us → AllByRecursion (λ (w : Write). IsImage w.after) (filter_map (λ (u : Record). write_of u.body) us)
  images_fit [] a = tt
  images_fit (u ∷ us) a = one (images_fit us a.1) u.body a.0.body
    where
      one : AllByRecursion (λ (w : Write). IsImage w.after) (filter_map (λ (u : Record). write_of u.body) us) → (b : Body) → IsBody pages b → AllByRecursion (λ (w : Write). IsImage w.after) (cons_option (write_of b) (filter_map (λ (u : Record). write_of u.body) us))
      one more (Update key before after) f = (f.2, more)
      one more (Compensation undo_next key after) f = more
      one more Commit f = more
      one more Rollback f = more
      one more End f = more
      one more BeginCheckpoint f = more
      one more (EndCheckpoint transactions rows) f = more
      one more Prepare f = more

-- a key is written by updates exactly where one of them is of it
written-is : (k : Key) (us : List Record) → is_written (filter_map (λ (u : Record). write_of u.body) us) k ≡ list_any (λ u. is_update_at k u.body) us
written-is k [] = refl
written-is k (u ∷ us) = one (written-is k us) u.body
  where
    one : is_written (filter_map (λ (u : Record). write_of u.body) us) k ≡ list_any (λ u. is_update_at k u.body) us → (b : Body) → is_written (cons_option (write_of b) (filter_map (λ (u : Record). write_of u.body) us)) k ≡ (is_update_at k b || list_any (λ u. is_update_at k u.body) us)
    one more (Update key before after) = ap (λ b. same_key key k || b) more
    one more (Compensation undo_next key after) = more
    one more Commit = more
    one more Rollback = more
    one more End = more
    one more BeginCheckpoint = more
    one more (EndCheckpoint transactions rows) = more
    one more Prepare = more

-- a transaction writes a key exactly where it holds it
pub written-holds : (log : List Record) (t : ℕ) (k : Key) → is_written (writes_of log t) k ≡ holds log t k
unfolding writes_of surviving
written-holds log t k = written-is k (reverse (to_undo log t)) ∙ any-reverse (λ u. is_update_at k u.body) (to_undo log t)

-- each of some writes is of a key that they write
All-written : (ws : List Write) → AllByRecursion (λ (w : Write). is_written ws w.key ≡ true) ws
All-written ws = go [] ws
  where
    go : (before left : List Write) → AllByRecursion (λ (w : Write). is_written (before ++ left) w.key ≡ true) left
    go before [] = tt
    go before (w ∷ left) = (
      list_any-append (λ x. same_key x.key w.key) before (w ∷ left) ∙ or_right (is_written before w.key) (is_written (w ∷ left) w.key) (ap (λ b. b || is_written left w.key) (same_key-refl w.key)),
      subst (λ ws. AllByRecursion (λ (x : Write). is_written ws x.key ≡ true) left) (append_assoc before (w ∷ []) left) (go (before ++ w ∷ []) left),
    )

-- ---- the doubts of a valid log

pub open_doubt : (log : List Record) (t : ℕ) → is_in_doubt log t ≡ true → is_open log t ≡ true
open_doubt log t d = is_open-is log t ∙ or_right (is_loser log t) (is_in_doubt log t) d

pub All-in_doubt : (log : List Record) → AllByRecursion (λ t. is_in_doubt log t ≡ true) (in_doubt log)
unfolding in_doubt
All-in_doubt log = All-passed (is_in_doubt log) (transactions log)

module _ (pages : ℕ) (log : List Record) (l : IsValidLog pages log) where
  v : is_valid log ≡ true
  v = l.valid

  -- two of them write no key in common
  apart : (s t : ℕ) → is_in_doubt log s ≡ true → is_in_doubt log t ≡ true → s < t → Misses (writes_of log s) (writes_of log t)
  apart s t ds dt lt = go (writes_of log t) (All-written (writes_of log t))
    where
      one : (k : Key) → is_written (writes_of log t) k ≡ true → is_written (writes_of log s) k ≡ false
      one k h = elim (cases_Bool (is_written (writes_of log s) k)) [
        | inr n ↦ n
        | inl y ↦
            let q : s ≡ t = holds-one log v k s t (open_doubt log s ds) (open_doubt log t dt) (sym (written-holds log s k) ∙ y) (sym (written-holds log t k) ∙ h) in
            absurd (omega arith)
      ]

      go : (ws : List Write) → AllByRecursion (λ (w : Write). is_written (writes_of log t) w.key ≡ true) ws → AllByRecursion (λ (w : Write). is_written (writes_of log s) w.key ≡ false) ws
      go [] a = tt
      go (w ∷ ws) a = (one w.key a.0, go ws a.1)

  all_apart : (s : ℕ) (ts : List ℕ) → is_in_doubt log s ≡ true → AllByRecursion (λ t. is_in_doubt log t ≡ true) ts → AllByRecursion (λ t. s < t) ts
      → AllByRecursion (λ (e : Doubt). Misses (writes_of log s) e.writes) (map (doubt_in log) ts)
  all_apart s [] d a b = tt
  all_apart s (t ∷ ts) d a b = (apart s t d a.0 b.0, all_apart s ts d a.1 b.1)

  fit_updates : (t : ℕ) → AllByRecursion (IsRecord pages) (reverse (to_undo log t))
  fit_updates t = All-reverse (IsRecord pages) (to_undo log t) (All-to_undo (IsRecord pages) log t l.text.records)

  fit_keys : (t : ℕ) → AllByRecursion (λ (w : Write). IsKey pages w.key) (writes_of log t)
  unfolding writes_of surviving
  fit_keys t = keys_fit pages (reverse (to_undo log t)) (fit_updates t)

  fit_images : (t : ℕ) → AllByRecursion (λ (w : Write). IsImage w.after) (writes_of log t)
  unfolding writes_of surviving
  fit_images t = images_fit pages (reverse (to_undo log t)) (fit_updates t)

  none_fits : greatest_trans [] < 2 ^ 32
  unfolding greatest_trans
  none_fits = omega arith

  -- no number is as great as 2 ^ 32
  greatest_fits : greatest_trans log < 2 ^ 32
  greatest_fits = log_induction (λ l. AllByRecursion (IsRecord pages) l → greatest_trans l < 2 ^ 32) (λ _. none_fits) more log l.text.records
    where
      more : (l : List Record) (r : Record) → (AllByRecursion (IsRecord pages) l → greatest_trans l < 2 ^ 32) → AllByRecursion (IsRecord pages) (l ++ r ∷ []) → greatest_trans (l ++ r ∷ []) < 2 ^ 32
      more l r h a =
          let below : greatest_trans l < 2 ^ 32 = h (All-front (IsRecord pages) l (r ∷ []) a) in
          let own : r.trans.0 < 2 ^ 32 = (All-behind (IsRecord pages) l (r ∷ []) a).0.trans in
          rw (greatest_trans-push l r) (omega arith)

  number_fits : (t : ℕ) → is_in_doubt log t ≡ true → t < 2 ^ 32
  number_fits t d =
      let b : t ≤ greatest_trans log = (Sound-valid log v).below t (has_begun-unended log t (in_doubt_parts log t d).0) in
      let g : greatest_trans log < 2 ^ 32 = greatest_fits in
      omega arith

  are_doubts : (least : ℕ) (ts : List ℕ) → AllByRecursion (λ t. is_in_doubt log t ≡ true) ts → Rising ts → AllByRecursion (λ t. least < t) ts → AreDoubts pages least (map (doubt_in log) ts)
  are_doubts least [] a r b = tt
  are_doubts least (t ∷ ts) a r b = (b.0, number_fits t a.0, fit_keys t, fit_images t, all_apart t ts a.0 a.1 r.0, are_doubts t ts a.1 r.1 r.0)

  pub doubts_are : (least : ℕ) → AllByRecursion (λ t. least < t) (in_doubt log) → AreDoubts pages least (doubts_in log)
  unfolding in_doubt
  doubts_are least b = are_doubts least (in_doubt log) (All-passed (is_in_doubt log) (transactions log)) (Rising-filter (is_in_doubt log) (transactions log) (Rising-transactions log v)) b

-- ---- behind a log in which nothing is open

module _ (first : List Record) (none : unended first ≡ []) where
  nothing_open : (t : ℕ) → is_open first t ≡ false
  nothing_open t = is_open-over first t (sym (is_among-unended first t) ∙ ap (λ ts. is_among ts t) none)

  all_free : (s : ℕ) (k : Key) → is_free first s k ≡ true
  unfolding is_free
  all_free s k = ap not (go (all_surviving first))
    where
      go : (us : List Record) → list_any (λ u. is_update_at k u.body && not (u.trans.0 == s) && is_open first u.trans.0) us ≡ false
      go [] = refl
      go (u ∷ us) = rw (nothing_open u.trans.0) (off (is_update_at k u.body && not (u.trans.0 == s)) (go us))
        where
          off : (b : Bool) → list_any (λ u. is_update_at k u.body && not (u.trans.0 == s) && is_open first u.trans.0) us ≡ false → ((b && false) || list_any (λ u. is_update_at k u.body && not (u.trans.0 == s) && is_open first u.trans.0) us) ≡ false
          off true e = e
          off false e = e

  free_writes : (s : ℕ) (ws : List Write) → AllByRecursion (λ (w : Write). is_free first s w.key ≡ true) ws
  free_writes s [] = tt
  free_writes s (w ∷ ws) = (all_free s w.key, free_writes s ws)

  free_doubts : (ds : List Doubt) → AreFree first ds
  free_doubts [] = tt
  free_doubts (d ∷ ds) = (free_writes d.trans d.writes, free_doubts ds)

pub may_carry : (pages : ℕ) (old first : List Record) → IsValidLog pages old → unended first ≡ [] → AllByRecursion (λ t. greatest_trans first < t) (in_doubt old) → MayCarry pages first (doubts_in old)
may_carry pages old first l none above = record {
  are = doubts_are pages old l (greatest_trans first) above;
  few = rw none (let a : length (unended old) ≤ 256 = length-unended old l.valid in omega (arith, length-map (in_doubt old) (doubt_in old), length-unended_parts old));
  free = free_doubts first none (doubts_in old);
}
