-- How large the counts are, and what a valid log with one more record says of that record.
use Rattle.std.proofs.Common.{◌≡◌, ℕ, ◌+◌, ◌*◌, ◌≤◌, Bool, true, false, cond, List, [], ◌∷◌, ◌++◌, length, sym, ap, ◌∙◌, inl, inr, arith}
use Rattle.std.specs.List.{AllByRecursion}
use Rattle.std.proofs.lemmas.Bool.{cases_Bool, and_parts, ltb-false}
use Rattle.als_record.specs.declared.key.Key.{Key}
use Rattle.als_record.specs.declared.record.Body.{Body}
use Rattle.als_record.specs.declared.record.Body.TheVariants.{Update, Compensation, Commit, Rollback, End, BeginCheckpoint, EndCheckpoint, Prepare}
use Rattle.als_record.specs.declared.record.Record.{Record}
use Rattle.als_record.specs.Spelling.{IsRecord, record_len}
use Rattle.als_record.specs.LogText.{end_of}
use Rattle.als_record.specs.Transactions.{to_undo_after, to_undo, is_of, records_of, unended, transactions}
use Rattle.als_record.specs.Images.{is_update_at}
use Rattle.als_record.specs.Validity.{is_valid, may_follow, too_many, IsValidLog}
use Rattle.als_record.proofs.Records.{to_undo-own, to_undo-other}
use Rattle.als_record.proofs.Survivors.{log_induction}
use Rattle.als_record.proofs.Validity.{Admitted, Admitted-may_follow, is_valid-push, valid_induction}
use Rattle.als_record.proofs.Places.{end_of-push, record_len-head}
use Rattle.als_validator.specs.Keys.{updates_at}

-- ---- a valid log with one more record

pub record Follows (pages : ℕ) (log : List Record) (r : Record) : Type 0 where
  pub valid : is_valid log ≡ true
  pub admitted : Admitted log r
  pub fits : IsRecord pages r
  pub may : may_follow log r ≡ true

last_fits : (pages : ℕ) (us : List Record) (r : Record) → AllByRecursion (IsRecord pages) (us ++ r ∷ []) → IsRecord pages r
last_fits pages [] r a = a.0
last_fits pages (u ∷ us) r a = last_fits pages us r a.1

pub follows : (pages : ℕ) (log : List Record) (r : Record) → IsValidLog pages (log ++ r ∷ []) → Follows pages log r
follows pages log r v =
    let parts : (is_valid log ≡ true) × (may_follow log r ≡ true) = and_parts (is_valid log) (may_follow log r) (sym (is_valid-push log r) ∙ v.valid) in
    record { valid = parts.0; admitted = Admitted-may_follow log r parts.1; fits = last_fits pages log r v.text.records; may = parts.1 }

-- ---- counts

updates_at-after : (k : Key) (left : List Record) (r : Record) (b : Body) → updates_at k (to_undo_after left r b) ≤ updates_at k left + 1
updates_at-after k left r (Update key before after) = one (is_update_at k r.body) (updates_at k left)
  where
    one : (b : Bool) (n : ℕ) → cond b 1 0 + n ≤ n + 1
    one true n = omega arith
    one false n = omega arith
updates_at-after k [] r (Compensation undo_next key after) = omega arith
updates_at-after k (u ∷ rest) r (Compensation undo_next key after) = omega arith
updates_at-after k left r Commit = omega arith
updates_at-after k left r Rollback = omega arith
updates_at-after k left r End = omega arith
updates_at-after k left r BeginCheckpoint = omega arith
updates_at-after k left r (EndCheckpoint rows pages) = omega arith
updates_at-after k left r Prepare = omega arith

updates_at-start : (k : Key) (t : ℕ) → updates_at k (to_undo [] t) * 2 + 16 ≤ end_of []
unfolding to_undo records_of end_of
updates_at-start k t = omega arith

-- each update that is counted has its bytes in the log
pub updates_at-below : (k : Key) (t : ℕ) (log : List Record) → updates_at k (to_undo log t) * 2 + 16 ≤ end_of log
updates_at-below k t log = log_induction (λ l. updates_at k (to_undo l t) * 2 + 16 ≤ end_of l) (updates_at-start k t) more log
  where
    more : (l : List Record) (r : Record) → updates_at k (to_undo l t) * 2 + 16 ≤ end_of l → updates_at k (to_undo (l ++ r ∷ []) t) * 2 + 16 ≤ end_of (l ++ r ∷ [])
    more l r h =
        let e : end_of (l ++ r ∷ []) ≡ end_of l + record_len r = end_of-push l r in
        let n : 28 ≤ record_len r = record_len-head r in
        elim (cases_Bool (is_of t r)) [
          | inl o ↦
              let m : updates_at k (to_undo_after (to_undo l t) r r.body) ≤ updates_at k (to_undo l t) + 1 = updates_at-after k (to_undo l t) r r.body in
              let q : updates_at k (to_undo (l ++ r ∷ []) t) ≡ updates_at k (to_undo_after (to_undo l t) r r.body) = ap (updates_at k) (to_undo-own l r t o) in
              omega arith
          | inr o ↦
              let q : updates_at k (to_undo (l ++ r ∷ []) t) ≡ updates_at k (to_undo l t) = ap (updates_at k) (to_undo-other l r t o) in
              omega arith
        ]

few-start : length (unended []) ≤ 256
unfolding unended transactions
few-start = omega arith

few-step : (l : List Record) (r : Record) → Admitted l r → length (unended (l ++ r ∷ [])) ≤ 256
unfolding too_many
few-step l r a = ltb-false 256 (length (unended (l ++ r ∷ []))) a.many

-- at most 256 transactions of a valid log are unended
pub few_unended : (log : List Record) → is_valid log ≡ true → length (unended log) ≤ 256
few_unended log v = valid_induction (λ l. length (unended l) ≤ 256) few-start (λ l r w h a. few-step l r a) log v
