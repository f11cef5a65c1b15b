-- A transaction that prepared, while it is in doubt: only its decision may follow, so that it keeps what it wrote.
use Rattle.std.proofs.Common.{◌≡◌, ℕ, ◌==◌, true, false, cond, List, [], ◌∷◌, ◌++◌, filter, filter_map, reverse, fold, refl, sym, ap, ◌∙◌, inl, inr, append_assoc, append-nil}
use Rattle.std.specs.List.{list_any}
use Rattle.std.proofs.lemmas.Bool.{cases_Bool, eqb-true, false≢true, and_parts, or_left, or_right}
use Rattle.std.proofs.lemmas.List.Elements.{filter-append}
use Rattle.std.proofs.lemmas.List.Folds.{list_any-append}
use Rattle.als_record.specs.declared.record.Body.{Body}
use Rattle.als_record.specs.declared.record.Body.TheVariants.{Update, Compensation, Commit, Rollback, End, BeginCheckpoint, EndCheckpoint, Prepare}
use Rattle.als_record.specs.declared.record.Record.{Record}
use Rattle.als_record.specs.Transactions.{is_transactional, is_commit, is_rollback, is_decision, is_of, records_of, to_undo_after, to_undo, surviving, is_committed, has_rollback, is_in_doubt}
use Rattle.als_record.specs.Validity.{may_follow, is_valid}
use Rattle.als_record.specs.Commits.{Write, write_of, writes_of}
use Rattle.als_record.proofs.Numbers.{eqb-refl}
use Rattle.als_record.proofs.Records.{in_doubt_parts, is_committed-own, has_rollback-own, is_in_doubt-other, to_undo-own}
use Rattle.als_record.proofs.Sound.{Sound-valid, only_decides}
use Rattle.als_record.proofs.Validity.{is_valid-front, is_valid-push, Admitted-may_follow}
use Rattle.als_writing.specs.Writing.{Prepares, record_for, updates, prepared, MayWrite}
use Rattle.als_writing.proofs.Updates.{Writing-updates}
use Rattle.als_writing.proofs.Preparing.{prepared-is, doubt_one}

-- ---- what has happened stays

records_of-append : (log more : List Record) (t : ℕ) → records_of (log ++ more) t ≡ records_of log t ++ records_of more t
unfolding records_of
records_of-append log more t = filter-append (is_of t) log more

is_committed-stays : (log more : List Record) (t : ℕ) → is_committed log t ≡ true → is_committed (log ++ more) t ≡ true
unfolding is_committed
is_committed-stays log more t c =
    ap (list_any (λ r. is_commit r.body)) (records_of-append log more t)
    ∙ list_any-append (λ r. is_commit r.body) (records_of log t) (records_of more t)
    ∙ or_left (list_any (λ r. is_commit r.body) (records_of log t)) (list_any (λ r. is_commit r.body) (records_of more t)) c

has_rollback-stays : (log more : List Record) (t : ℕ) → has_rollback log t ≡ true → has_rollback (log ++ more) t ≡ true
unfolding has_rollback
has_rollback-stays log more t c =
    ap (list_any (λ r. is_rollback r.body)) (records_of-append log more t)
    ∙ list_any-append (λ r. is_rollback r.body) (records_of log t) (records_of more t)
    ∙ or_left (list_any (λ r. is_rollback r.body) (records_of log t)) (list_any (λ r. is_rollback r.body) (records_of more t)) c

-- ---- no record of a transaction in doubt follows while it is

module _ (log : List Record) (r : Record) (rest : List Record) (t : ℕ) (v : is_valid ((log ++ r ∷ []) ++ rest) ≡ true) (d : is_in_doubt log t ≡ true) (still : is_in_doubt ((log ++ r ∷ []) ++ rest) t ≡ true) where
  pushed : is_valid (log ++ r ∷ []) ≡ true
  pushed = is_valid-front (log ++ r ∷ []) rest v

  parts : (is_valid log ≡ true) × (may_follow log r ≡ true)
  parts = and_parts (is_valid log) (may_follow log r) (sym (is_valid-push log r) ∙ pushed)

  decides : is_of t r ≡ true → is_decision r.body ≡ true
  decides own = elim (cases_Bool (is_decision r.body)) [
    | inl e ↦ e
    | inr e ↦
        let q : r.trans.0 ≡ t = eqb-true r.trans.0 t (and_parts (is_transactional r.body) (r.trans.0 == t) own).1 in
        absurd (false≢true (sym (only_decides log r (Sound-valid log parts.0) (Admitted-may_follow log r parts.1) e) ∙ ap (is_in_doubt log) q ∙ d))
  ]

  over : (b : Body) → r.body ≡ b → is_of t r ≡ true → is_decision b ≡ true → false ≡ true
  over Commit q own e = sym (in_doubt_parts ((log ++ r ∷ []) ++ rest) t still).2 ∙ is_committed-stays (log ++ r ∷ []) rest t (is_committed-own log r t own ∙ or_right (is_committed log t) (is_commit r.body) (ap is_commit q))
  over Rollback q own e = sym (in_doubt_parts ((log ++ r ∷ []) ++ rest) t still).3 ∙ has_rollback-stays (log ++ r ∷ []) rest t (has_rollback-own log r t own ∙ or_right (has_rollback log t) (is_rollback r.body) (ap is_rollback q))
  over (Update key before after) q own e = e
  over (Compensation undo_next key after) q own e = e
  over End q own e = e
  over BeginCheckpoint q own e = e
  over (EndCheckpoint transactions pages) q own e = e
  over Prepare q own e = e

  pub not_own : is_of t r ≡ false
  not_own = elim (cases_Bool (is_of t r)) [
    | inl own ↦ absurd (false≢true (over r.body refl own (decides own)))
    | inr e ↦ e
  ]

pub records_of-doubting : (t : ℕ) (more log : List Record) → is_valid (log ++ more) ≡ true → is_in_doubt log t ≡ true → is_in_doubt (log ++ more) t ≡ true → records_of more t ≡ []
unfolding records_of
records_of-doubting t [] log v d still = refl
records_of-doubting t (r ∷ rest) log v d still =
    let a : (log ++ r ∷ []) ++ rest ≡ log ++ (r ∷ rest) = append_assoc log (r ∷ []) rest in
    let w : is_valid ((log ++ r ∷ []) ++ rest) ≡ true = ap is_valid a ∙ v in
    let s : is_in_doubt ((log ++ r ∷ []) ++ rest) t ≡ true = ap (λ l. is_in_doubt l t) a ∙ still in
    let n : is_of t r ≡ false = not_own log r rest t w d s in
    ap (λ b. cond b (r ∷ filter (is_of t) rest) (filter (is_of t) rest)) n
    ∙ records_of-doubting t rest (log ++ r ∷ []) w (is_in_doubt-other log r t n ∙ d) s

-- what a transaction wrote is read off its records
writes_of-same : (log more : List Record) (t : ℕ) → records_of more t ≡ records_of log t → writes_of more t ≡ writes_of log t
unfolding writes_of surviving to_undo
writes_of-same log more t e = ap (λ rs. filter_map (λ (u : Record). write_of u.body) (reverse (fold (λ left u. to_undo_after left u u.body) [] rs))) e

-- ---- a transaction that prepared

module _ (pages : ℕ) (front more : List Record) (t : ℕ) (writes : List Write) (m : MayWrite pages front t writes) (v : is_valid ((front ++ prepared front t writes) ++ more) ≡ true) (d : is_in_doubt ((front ++ prepared front t writes) ++ more) t ≡ true) where
  abbrev doubting : List Record
  doubting = front ++ prepared front t writes

  first : is_valid front ≡ true
  first = is_valid-front front (prepared front t writes) (is_valid-front (front ++ prepared front t writes) more v)

  in_doubt_then : is_in_doubt (front ++ prepared front t writes) t ≡ true
  in_doubt_then = ap (λ l. is_in_doubt l t) (prepared-is pages front t writes first m) ∙ doubt_one pages front t writes first m

  pub records_of-behind : records_of more t ≡ []
  records_of-behind = records_of-doubting t more (front ++ prepared front t writes) v in_doubt_then d

  writes_then : writes_of (front ++ prepared front t writes) t ≡ writes
  unfolding writes_of surviving
  writes_then =
      ap (λ l. writes_of l t) (prepared-is pages front t writes first m)
      ∙ ap (λ us. filter_map (λ (u : Record). write_of u.body) (reverse us)) (to_undo-own (front ++ updates front t writes) (record_for (front ++ updates front t writes) t Prepares) t (eqb-refl t))
      ∙ sym (append-nil (writes_of (front ++ updates front t writes) t))
      ∙ (Writing-updates pages front t writes first m).writes

  pub writes_of-prepared : writes_of ((front ++ prepared front t writes) ++ more) t ≡ writes
  writes_of-prepared =
      writes_of-same (front ++ prepared front t writes) ((front ++ prepared front t writes) ++ more) t (records_of-append (front ++ prepared front t writes) more t ∙ ap (λ rs. records_of (front ++ prepared front t writes) t ++ rs) records_of-behind ∙ append-nil (records_of (front ++ prepared front t writes) t))
      ∙ writes_then
