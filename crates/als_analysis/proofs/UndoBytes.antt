-- The number of surviving updates and the bytes of the compensations to come, through one more record: a compensation that may follow undoes one update, and
-- takes as many bytes as that update owed.
use Rattle.std.proofs.Common.{◌≡◌, ℕ, ◌+◌, ◌-◌, ◌%◌, ◌^◌, Bool, true, false, not, List, [], ◌∷◌, ◌++◌, length, drop, reverse, refl, sym, ap, ◌∙◌, arith}
use Rattle.std.specs.List.{sum_by}
use Rattle.std.proofs.Math.Nat.{mod-add-mod}
use Rattle.std.proofs.lemmas.Bool.{false≢true, and_parts}
use Rattle.std.proofs.lemmas.List.Sums.{sum_by-cons}
use Rattle.std.proofs.lemmas.List.Sorted.{sum_by-IsPermutation, IsPermutation-reverse}
use Rattle.als_record.specs.declared.key.Key.{Key}
use Rattle.als_record.specs.declared.lsn.Lsn.{Lsn}
use Rattle.als_record.specs.declared.record.Body.{Body}
use Rattle.als_record.specs.declared.record.Body.TheVariants.{Update, Compensation, Commit, Rollback, End, BeginCheckpoint, EndCheckpoint, Prepare}
use Rattle.als_record.specs.declared.record.Record.{Record}
use Rattle.als_record.specs.Spelling.{Image, image_len}
use Rattle.als_record.specs.Images.{same_image, is_update_at, image_before}
use Rattle.als_record.specs.Transactions.{is_of, to_undo, to_undo_after, surviving}
use Rattle.als_record.specs.Validity.{undoes_newest, wrong_compensation}
use Rattle.als_record.proofs.Records.{to_undo-own, to_undo-other, surviving-other}
use Rattle.als_record.proofs.Standing.{same_image-true}
use Rattle.als_analysis.specs.Open.{undo_len, count_after, bytes_after}
use Rattle.als_analysis.specs.Noted.{survivor_count, undo_bytes}
use Rattle.als_analysis.proofs.Counting.{wrapped-sub}

not-false : (b : Bool) → not b ≡ false → b ≡ true
not-false true e = refl
not-false false e = absurd (false≢true (sym e))

-- the same bytes, the newest update first
pub undo_bytes-newest : (log : List Record) (t : ℕ) → undo_bytes log t ≡ sum_by undo_len (to_undo log t)
unfolding surviving
undo_bytes-newest log t = sum_by-IsPermutation undo_len (to_undo log t) (reverse (to_undo log t)) (IsPermutation-reverse (to_undo log t))

-- a transaction of which no update survives
pub undo_bytes-none : (log : List Record) (t : ℕ) → to_undo log t ≡ [] → undo_bytes log t ≡ 0
undo_bytes-none log t none = undo_bytes-newest log t ∙ ap (λ us. sum_by undo_len us) none

-- another transaction's record
pub undo_bytes-other : (log : List Record) (r : Record) (t : ℕ) → is_of t r ≡ false → undo_bytes (log ++ r ∷ []) t ≡ undo_bytes log t
undo_bytes-other log r t other = ap (sum_by undo_len) (surviving-other log r t other)

pub survivor_count-other : (log : List Record) (r : Record) (t : ℕ) → is_of t r ≡ false → survivor_count (log ++ r ∷ []) t ≡ survivor_count log t
survivor_count-other log r t other = ap (λ (us : List Record). length us) (to_undo-other log r t other)

-- an update owes the compensation that writes its before image back
owes : (u : Record) (key : Key) (before after : Image) → u.body ≡ Update key before after → undo_len u ≡ 42 + image_len before
owes u key before after e = ap (λ b. 42 + image_len (image_before b)) e

-- the newest update goes, by the length of the compensation that undoes it
undone_bytes : (left : List Record) (next : Lsn) (key : Key) (after : Image) → undoes_newest left (Compensation next key after) ≡ true → sum_by undo_len left ≡ sum_by undo_len (drop 1 left) + (42 + image_len after)
undone_bytes [] next key after e = absurd (false≢true e)
undone_bytes (u ∷ rest) next key after e =
    let s : sum_by undo_len (u ∷ rest) ≡ undo_len u + sum_by undo_len rest = sum_by-cons undo_len u rest in
    let same : after ≡ image_before u.body = same_image-true after (image_before u.body) (and_parts (is_update_at key u.body) (same_image after (image_before u.body)) e).1 in
    let len : undo_len u ≡ 42 + image_len after = ap (λ i. 42 + image_len i) (sym same) in
    omega arith

-- the newest update goes
undone_count : (left : List Record) (next : Lsn) (key : Key) (after : Image) → undoes_newest left (Compensation next key after) ≡ true → length left ≡ length (drop 1 left) + 1
undone_count [] next key after e = absurd (false≢true e)
undone_count (u ∷ rest) next key after e = omega arith

module _ (log : List Record) (r : Record) (own : is_of r.trans.0 r ≡ true) (fits : wrong_compensation log r ≡ false) where
  -- its own record, which may follow
  pub undo_bytes-own : undo_bytes (log ++ r ∷ []) r.trans.0 % 2 ^ 64 ≡ bytes_after (undo_bytes log r.trans.0 % 2 ^ 64) r.body
  unfolding wrong_compensation
  undo_bytes-own = ap (λ n. n % 2 ^ 64) next ∙ go r.body refl ∙ ap (λ n. bytes_after (n % 2 ^ 64) r.body) (sym (undo_bytes-newest log r.trans.0))
    where
      left : List Record
      left = to_undo log r.trans.0

      next : undo_bytes (log ++ r ∷ []) r.trans.0 ≡ sum_by undo_len (to_undo_after left r r.body)
      next = undo_bytes-newest (log ++ r ∷ []) r.trans.0 ∙ ap (sum_by undo_len) (to_undo-own log r r.trans.0 own)

      go : (b : Body) → r.body ≡ b → sum_by undo_len (to_undo_after left r b) % 2 ^ 64 ≡ bytes_after (sum_by undo_len left % 2 ^ 64) b
      go (Update key before after) e =
          let s : sum_by undo_len (r ∷ left) ≡ undo_len r + sum_by undo_len left = sum_by-cons undo_len r left in
          let len : undo_len r ≡ 42 + image_len before = owes r key before after e in
          let sum : sum_by undo_len (r ∷ left) ≡ sum_by undo_len left + (42 + image_len before) = omega arith in
          ap (λ n. n % 2 ^ 64) sum ∙ sym (mod-add-mod (sum_by undo_len left) (2 ^ 64) (42 + image_len before))
      go (Compensation undo_next key after) e =
          let undoes : undoes_newest left (Compensation undo_next key after) ≡ true = ap (undoes_newest left) (sym e) ∙ not-false (undoes_newest left r.body) fits in
          let sum : sum_by undo_len left ≡ sum_by undo_len (to_undo_after left r (Compensation undo_next key after)) + (42 + image_len after) = undone_bytes left undo_next key after undoes in
          sym (ap (λ n. (n % 2 ^ 64 + (2 ^ 64 - (42 + image_len after) % 2 ^ 64)) % 2 ^ 64) sum ∙ wrapped-sub (sum_by undo_len (to_undo_after left r (Compensation undo_next key after))) (42 + image_len after))
      go Commit e = refl
      go Rollback e = refl
      go End e = refl
      go BeginCheckpoint e = refl
      go (EndCheckpoint transactions pages) e = refl
      go Prepare e = refl

  pub survivor_count-own : survivor_count (log ++ r ∷ []) r.trans.0 % 2 ^ 64 ≡ count_after (survivor_count log r.trans.0 % 2 ^ 64) r.body
  unfolding wrong_compensation
  survivor_count-own = ap (λ (us : List Record). length us % 2 ^ 64) (to_undo-own log r r.trans.0 own) ∙ go r.body refl
    where
      left : List Record
      left = to_undo log r.trans.0

      go : (b : Body) → r.body ≡ b → length (to_undo_after left r b) % 2 ^ 64 ≡ count_after (length left % 2 ^ 64) b
      go (Update key before after) e = let n : length (r ∷ left) ≡ length left + 1 = omega arith in ap (λ n. n % 2 ^ 64) n ∙ sym (mod-add-mod (length left) (2 ^ 64) 1)
      go (Compensation undo_next key after) e =
          let undoes : undoes_newest left (Compensation undo_next key after) ≡ true = ap (undoes_newest left) (sym e) ∙ not-false (undoes_newest left r.body) fits in
          let n : length left ≡ length (drop 1 left) + 1 = undone_count left undo_next key after undoes in
          sym (ap (λ n. (n % 2 ^ 64 + (2 ^ 64 - 1)) % 2 ^ 64) n ∙ wrapped-sub (length (drop 1 left)) 1)
      go Commit e = refl
      go Rollback e = refl
      go End e = refl
      go BeginCheckpoint e = refl
      go (EndCheckpoint transactions pages) e = refl
      go Prepare e = refl
