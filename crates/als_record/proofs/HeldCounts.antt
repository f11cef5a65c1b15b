-- How many surviving updates of a key a transaction has, with one more record: what a validator counts at each key.
use Rattle.std.proofs.Common.{◌≡◌, ℕ, ◌+◌, nat_lt, Bool, true, false, cond, ◌||◌, List, [], ◌∷◌, ◌++◌, count_by, drop, refl, sym, ap, ◌∙◌, arith, zero-add}
use Rattle.std.specs.List.{list_any}
use Rattle.std.proofs.lemmas.Bool.{false≢true, lt-ltb}
use Rattle.std.proofs.lemmas.List.Sums.{sum_by-cons}
use Rattle.als_record.specs.declared.key.Key.{Key}
use Rattle.als_record.specs.declared.record.Body.{Body}
use Rattle.als_record.specs.declared.record.Body.TheVariants.{Update, Compensation, Commit, Rollback, End, BeginCheckpoint, EndCheckpoint, Prepare}
use Rattle.als_record.specs.declared.record.Record.{Record}
use Rattle.als_record.specs.Spelling.{Image}
use Rattle.als_record.specs.Transactions.{is_update, is_compensation, is_of, to_undo_after, to_undo, has_begun}
use Rattle.als_record.specs.Images.{same_key, is_update_at}
use Rattle.als_record.proofs.Records.{to_undo-own, to_undo-other, to_undo-none}
use Rattle.als_record.proofs.Standing.{is_update_at-same}
use Rattle.als_record.proofs.Held.{holds}

-- how many surviving updates of a key a transaction has
unfoldable pub count_at : List Record → ℕ → Key → ℕ
count_at log t k = count_by (λ u. is_update_at k u.body) (to_undo log t)

-- it holds a key where it has one
pub holds-count_at : (log : List Record) (t : ℕ) (k : Key) → holds log t k ≡ nat_lt 0 (count_at log t k)
unfolding count_at
holds-count_at log t k = go (to_undo log t)
  where
    one : (b : Bool) (n : ℕ) → (b || nat_lt 0 n) ≡ nat_lt 0 (cond b 1 0 + n)
    one true n = sym (lt-ltb 0 (1 + n) (omega arith))
    one false n = ap (nat_lt 0) (sym (zero-add n))

    go : (us : List Record) → list_any (λ u. is_update_at k u.body) us ≡ nat_lt 0 (count_by (λ u. is_update_at k u.body) us)
    go [] = refl
    go (u ∷ rest) =
        ap (λ b. is_update_at k u.body || b) (go rest)
        ∙ one (is_update_at k u.body) (count_by (λ u. is_update_at k u.body) rest)
        ∙ ap (nat_lt 0) (sym (sum_by-cons (λ (u : Record). cond (is_update_at k u.body) 1 0) u rest))

module _ (log : List Record) (r : Record) (t : ℕ) (k : Key) where
  pub count_at-other : is_of t r ≡ false → count_at (log ++ r ∷ []) t k ≡ count_at log t k
  unfolding count_at
  count_at-other o = ap (count_by (λ u. is_update_at k u.body)) (to_undo-other log r t o)

  pub count_at-update : (key : Key) (before after : Image) → is_of t r ≡ true → r.body ≡ Update key before after → count_at (log ++ r ∷ []) t k ≡ count_at log t k + cond (same_key key k) 1 0
  unfolding count_at
  count_at-update key before after o b =
      let a : count_by (λ u. is_update_at k u.body) (to_undo (log ++ r ∷ []) t) ≡ count_by (λ u. is_update_at k u.body) (r ∷ to_undo log t) = ap (count_by (λ u. is_update_at k u.body)) (to_undo-own log r t o ∙ ap (to_undo_after (to_undo log t) r) b) in
      let c : count_by (λ u. is_update_at k u.body) (r ∷ to_undo log t) ≡ cond (is_update_at k r.body) 1 0 + count_by (λ u. is_update_at k u.body) (to_undo log t) = sum_by-cons (λ (u : Record). cond (is_update_at k u.body) 1 0) r (to_undo log t) in
      let d : cond (is_update_at k r.body) 1 0 ≡ cond {A = ℕ} (same_key key k) 1 0 = ap (λ x. cond {A = ℕ} (is_update_at k x) 1 0) b in
      omega arith

  -- a compensation of the newest update, which is one of this key
  pub count_at-compensation : (v : Record) (rest : List Record) (key : Key) → is_of t r ≡ true → is_compensation r.body ≡ true → to_undo log t ≡ v ∷ rest → is_update_at key v.body ≡ true → count_at (log ++ r ∷ []) t k + cond (same_key key k) 1 0 ≡ count_at log t k
  unfolding count_at
  count_at-compensation v rest key o c e h =
      let a : count_by (λ u. is_update_at k u.body) (to_undo (log ++ r ∷ []) t) ≡ count_by (λ u. is_update_at k u.body) rest = ap (count_by (λ u. is_update_at k u.body)) (to_undo-own log r t o ∙ popped r.body c ∙ ap (drop 1) e) in
      let b : count_by (λ u. is_update_at k u.body) (to_undo log t) ≡ count_by (λ u. is_update_at k u.body) (v ∷ rest) = ap (count_by (λ u. is_update_at k u.body)) e in
      let d : count_by (λ u. is_update_at k u.body) (v ∷ rest) ≡ cond (is_update_at k v.body) 1 0 + count_by (λ u. is_update_at k u.body) rest = sum_by-cons (λ (u : Record). cond (is_update_at k u.body) 1 0) v rest in
      let f : cond (is_update_at k v.body) 1 0 ≡ cond {A = ℕ} (same_key key k) 1 0 = ap (λ x. cond {A = ℕ} x 1 0) (is_update_at-same key k v.body h) in
      omega arith
    where
      popped : (b : Body) → is_compensation b ≡ true → to_undo_after (to_undo log t) r b ≡ drop 1 (to_undo log t)
      popped (Compensation undo_next key after) _ = refl
      popped (Update key before after) e = absurd (false≢true e)
      popped Commit e = absurd (false≢true e)
      popped Rollback e = absurd (false≢true e)
      popped End e = absurd (false≢true e)
      popped BeginCheckpoint e = absurd (false≢true e)
      popped (EndCheckpoint transactions pages) e = absurd (false≢true e)
      popped Prepare e = absurd (false≢true e)

  -- a commit, a rollback, an end
  pub count_at-quiet : is_of t r ≡ true → is_update r.body ≡ false → is_compensation r.body ≡ false → count_at (log ++ r ∷ []) t k ≡ count_at log t k
  unfolding count_at
  count_at-quiet o u c = ap (count_by (λ u. is_update_at k u.body)) (to_undo-own log r t o ∙ quiet r.body u c)
    where
      quiet : (b : Body) → is_update b ≡ false → is_compensation b ≡ false → to_undo_after (to_undo log t) r b ≡ to_undo log t
      quiet (Update key before after) e f = absurd (false≢true (sym e))
      quiet (Compensation undo_next key after) e f = absurd (false≢true (sym f))
      quiet Commit e f = refl
      quiet Rollback e f = refl
      quiet End e f = refl
      quiet BeginCheckpoint e f = refl
      quiet (EndCheckpoint transactions pages) e f = refl
      quiet Prepare e f = refl

pub count_at-none : (log : List Record) (t : ℕ) (k : Key) → has_begun log t ≡ false → count_at log t k ≡ 0
unfolding count_at
count_at-none log t k n = ap (count_by (λ u. is_update_at k u.body)) (to_undo-none log t n)
