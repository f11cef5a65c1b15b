-- A transaction that prepares: its updates and its prepare record, and what comes of them.
use Rattle.std.proofs.Common.{◌≡◌, ℕ, ◌==◌, ◌+◌, ◌≤◌, ◌^◌, Bool, true, false, cond, not, ◌&&◌, ◌||◌, List, [], ◌∷◌, ◌++◌, map, filter, find, fold, take, sum_by, refl, sym, ap, ◌∙◌, inl, inr, subst, arith, append-nil}
use Rattle.std.proofs.lemmas.Bool.{cases_Bool, eqb-true, and_parts}
use Rattle.std.proofs.lemmas.List.Elements.{filter-append}
use Rattle.als_record.specs.declared.key.Key.{Key}
use Rattle.als_record.specs.declared.record.Record.{Record}
use Rattle.als_record.specs.Spelling.{record_len}
use Rattle.als_record.specs.LogText.{end_of}
use Rattle.als_record.specs.Transactions.{is_among, is_loser, surviving, to_undo, is_committed, has_begun, is_unended, is_open, is_in_doubt, transactions, unended, in_doubt, all_surviving}
use Rattle.als_record.specs.Images.{is_update_at, image_of_found, is_kept, kept}
use Rattle.als_record.specs.Validity.{may_follow_all, is_valid, IsValidLog}
use Rattle.als_record.specs.Commits.{Write, commits_of, after_write, writes_of}
use Rattle.als_record.specs.Tail.{ending, undo_len, undo_bytes, tail_of, reserve_of}
use Rattle.als_record.proofs.Numbers.{eqb-refl, eqb-sym, filter-except}
use Rattle.als_record.proofs.Records.{is_committed-other, is_in_doubt-own, is_in_doubt-other, is_open-is, to_undo-own, is_unended-none}
use Rattle.als_record.proofs.Survivors.{all_surviving-push, All-weaken}
use Rattle.als_record.proofs.Unended.{is_in_doubt-unended, is_among-unended}
use Rattle.als_record.proofs.Validity.{is_valid-append}
use Rattle.als_record.proofs.Places.{end_of-push}
use Rattle.als_record.proofs.CommitSteps.{commits_of-push}
use Rattle.als_record.proofs.TailFirst.{ending-tail_of, tail_of-none}
use Rattle.als_writing.specs.Writing.{Writes, Prepares, record_for, moved, updates, prepared, room_for, MayWrite}
use Rattle.als_writing.proofs.Going.{may_prepare, is_valid-next}
use Rattle.als_writing.proofs.Moved.{moved-next, moved-append, moved-none}
use Rattle.als_writing.proofs.Lists.{written-on_top}
use Rattle.als_writing.proofs.Updates.{Writing, IsNew-number, Writing-updates, unended-joined}
use Rattle.als_writing.proofs.Committing.{All-others, All-own}
use Rattle.als_writing.proofs.Fitting.{moved_fits, writes_fit}
use Rattle.als_writing.proofs.Beside.{Beside, Beside-moved}
use Rattle.als_writing.proofs.Fronts.{take-moved, fronts_prepared}
use Rattle.als_writing.proofs.Rooms.{share, reserve_of-with, end_of-append}
use Rattle.als_writing.proofs.Ahead.{out, bytes_one, some}

-- those in doubt are the unended ones that are
in_doubt-is : (log : List Record) → in_doubt log ≡ filter (is_in_doubt log) (unended log)
unfolding in_doubt unended
in_doubt-is log = go (transactions log)
  where
    go : (ts : List ℕ) → filter (is_in_doubt log) ts ≡ filter (is_in_doubt log) (filter (is_unended log) ts)
    go [] = refl
    go (x ∷ ts) = elim (cases_Bool (is_in_doubt log x)) [
      | inl d ↦ let u : is_unended log x ≡ true = is_in_doubt-unended log x d in rw (d, u) (rw d (ap (λ rest. x ∷ rest) (go ts)))
      | inr d ↦ elim (cases_Bool (is_unended log x)) [
        | inl u ↦ rw (d, u) (rw d (go ts))
        | inr u ↦ rw (d, u) (go ts)
      ]
    ]

module _ (pages : ℕ) (log : List Record) (t : ℕ) (writes : List Write) (v : is_valid log ≡ true) (m : MayWrite pages log t writes) where
  abbrev updated : List Record
  updated = log ++ updates log t writes

  abbrev prepare : Record
  prepare = record_for (log ++ updates log t writes) t Prepares

  abbrev doubting : List Record
  doubting = (log ++ updates log t writes) ++ record_for (log ++ updates log t writes) t Prepares ∷ []

  abbrev new : has_begun log t ≡ false
  new = (IsNew-number pages log t writes v m).begun

  abbrev writing : Writing log t writes (log ++ updates log t writes) []
  writing = Writing-updates pages log t writes v m

  pub prepared-is : log ++ prepared log t writes ≡ doubting
  unfolding prepared updates
  prepared-is =
      moved-append t (map Writes writes) (Prepares ∷ []) log
      ∙ moved-next updated t Prepares []
      ∙ moved-none doubting t

  pub beside : Beside t log doubting
  unfolding prepared
  beside = subst (Beside t log) prepared-is (Beside-moved t (map Writes writes ++ Prepares ∷ []) log)

  pub valid_prepared : is_valid doubting ≡ true
  valid_prepared = is_valid-next updated prepare writing.valid (may_prepare updated t writing.valid writing.active)

  pub unended_prepared : unended doubting ≡ unended log ++ t ∷ []
  unended_prepared = unended-joined (unended log) updated t prepare refl refl refl writing.active writing.joins

  pub doubt_one : is_in_doubt doubting t ≡ true
  doubt_one = is_in_doubt-own updated prepare t (eqb-refl t) ∙ rw (writing.active.ended, writing.active.prepared, writing.active.committed, writing.active.rolls) refl

  pub in_doubt_prepared : in_doubt doubting ≡ in_doubt log ++ t ∷ []
  in_doubt_prepared =
      in_doubt-is doubting
      ∙ ap (filter (is_in_doubt doubting)) unended_prepared
      ∙ filter-append (is_in_doubt doubting) (unended log) (t ∷ [])
      ∙ ap (λ xs. xs ++ cond (is_in_doubt doubting t) (t ∷ []) []) (filter-except (is_in_doubt doubting) (is_in_doubt log) t beside.in_doubt (unended log) outside ∙ sym (in_doubt-is log))
      ∙ ap (λ b. in_doubt log ++ cond b (t ∷ []) []) doubt_one
    where
      outside : is_among (unended log) t ≡ false
      outside = is_among-unended log t ∙ is_unended-none log t new

  pub commits_prepared : commits_of doubting ≡ commits_of log
  commits_prepared = commits_of-push updated prepare valid_prepared ∙ append-nil (commits_of updated) ∙ writing.commits

  -- ---- what a takeover keeps

  kept_one : is_kept doubting t ≡ true
  kept_one = ap (λ b. is_committed doubting t || b) doubt_one ∙ or-true (is_committed doubting t)
    where
      or-true : (b : Bool) → (b || true) ≡ true
      or-true true = refl
      or-true false = refl

  kept_others : (x : ℕ) → (x == t) ≡ false → is_kept doubting x ≡ is_kept log x
  kept_others x e = cc (is_committed-other updated prepare x (eqb-sym t x ∙ e) ∙ writing.committed x e, is_in_doubt-other updated prepare x (eqb-sym t x ∙ e) ∙ writing.in_doubt x e)

  pub kept_prepared : (k : Key) → kept doubting k ≡ fold (after_write k) (kept log k) writes
  unfolding kept writes_of surviving
  kept_prepared k =
      ap (λ us. image_of_found (find (λ u. is_update_at k u.body && is_kept doubting u.trans.0) us)) (all_surviving-push updated prepare ∙ writing.survivors)
      ∙ written-on_top k (λ u. is_update_at k u.body && is_kept doubting u.trans.0) (λ u. is_update_at k u.body && is_kept log u.trans.0) (to_undo updated t) (all_surviving log)
      (All-weaken (λ u. (u.trans.0 == t) ≡ true) (λ u. (is_update_at k u.body && is_kept doubting u.trans.0) ≡ is_update_at k u.body) (λ u e. ap (λ x. is_update_at k u.body && is_kept doubting x) (eqb-true u.trans.0 t e) ∙ ap (λ b. is_update_at k u.body && b) kept_one ∙ and-true (is_update_at k u.body)) (to_undo updated t) (All-own updated t))
      (All-weaken (λ u. (u.trans.0 == t) ≡ false) (λ u. (is_update_at k u.body && is_kept doubting u.trans.0) ≡ (is_update_at k u.body && is_kept log u.trans.0)) (λ u e. ap (λ b. is_update_at k u.body && b) (kept_others u.trans.0 e)) (all_surviving log) (All-others log t new))
      ∙ ap (fold (after_write k) (image_of_found (find (λ u. is_update_at k u.body && is_kept log u.trans.0) (all_surviving log)))) (sym (append-nil (writes_of updated t)) ∙ writing.writes)
    where
      and-true : (b : Bool) → (b && true) ≡ b
      and-true true = refl
      and-true false = refl

  pub may_follow_all-prepared : may_follow_all log (prepared log t writes) ≡ true
  may_follow_all-prepared = (and_parts (is_valid log) (may_follow_all log (prepared log t writes)) (sym (is_valid-append log (prepared log t writes)) ∙ ap is_valid prepared-is ∙ valid_prepared)).1

  -- ---- nothing more is owed

  pub tail_of-prepared : tail_of log ≡ [] → tail_of doubting ≡ []
  unfolding ending
  tail_of-prepared tidy = tail_of-none doubting
      (ap (filter (λ x. not (is_in_doubt doubting x))) unended_prepared
      ∙ filter-append (λ x. not (is_in_doubt doubting x)) (unended log) (t ∷ [])
      ∙ ap (λ b. filter (λ x. not (is_in_doubt doubting x)) (unended log) ++ cond (not b) (t ∷ []) []) doubt_one
      ∙ append-nil (filter (λ x. not (is_in_doubt doubting x)) (unended log))
      ∙ filter-except (λ x. not (is_in_doubt doubting x)) (λ x. not (is_in_doubt log x)) t (λ x e. ap not (beside.in_doubt x e)) (unended log) (is_among-unended log t ∙ is_unended-none log t new)
      ∙ ending-tail_of log tidy)

-- ---- it fits its spelling

pub IsValidLog-prepared : (pages : ℕ) (log : List Record) (t : ℕ) (writes : List Write) → IsValidLog pages log → MayWrite pages log t writes → end_of (log ++ prepared log t writes) ≤ 2 ^ 64 → IsValidLog pages (log ++ prepared log t writes)
unfolding prepared
IsValidLog-prepared pages log t writes l m room =
    let valid : is_valid (log ++ moved log t (map Writes writes ++ Prepares ∷ [])) ≡ true = ap is_valid (prepared-is pages log t writes l.valid m) ∙ valid_prepared pages log t writes l.valid m in
    record {
      text = moved_fits pages t m.width (map Writes writes ++ Prepares ∷ []) log valid l.text (writes_fit pages (Prepares ∷ []) (tt, tt) writes m.keys m.images) room;
      valid = valid;
    }

-- ---- its room

module _ (pages : ℕ) (log : List Record) (t : ℕ) (v : is_valid log ≡ true) (w : Write) (rest : List Write) (m : MayWrite pages log t (w ∷ rest)) where
  abbrev up : List Record
  up = log ++ updates log t (w ∷ rest)

  abbrev doubt : List Record
  doubt = (log ++ updates log t (w ∷ rest)) ++ record_for (log ++ updates log t (w ∷ rest)) t Prepares ∷ []

  bytes_doubt : undo_bytes doubt t ≡ sum_by undo_len (updates log t (w ∷ rest))
  unfolding undo_bytes
  bytes_doubt = ap (sum_by undo_len) (to_undo-own up (record_for up t Prepares) t (eqb-refl t)) ∙ bytes_one pages log t v w rest m

  open_doubt : is_open doubt t ≡ true
  open_doubt = is_open-is doubt t ∙ rw (doubt_one pages log t (w ∷ rest) v m) (or-true (is_loser doubt t))
    where
      or-true : (b : Bool) → (b || true) ≡ true
      or-true true = refl
      or-true false = refl

  reserve_doubt : reserve_of doubt ≡ reserve_of log + 56 + sum_by undo_len (updates log t (w ∷ rest))
  reserve_doubt =
      let a : reserve_of doubt ≡ reserve_of log + share doubt t = reserve_of-with t log doubt (beside pages log t (w ∷ rest) v m) (out pages log t v w rest m) (unended_prepared pages log t (w ∷ rest) v m) in
      let b : share doubt t ≡ 28 + 28 + undo_bytes doubt t = rw (doubt_one pages log t (w ∷ rest) v m, open_doubt) refl in
      let c : undo_bytes doubt t ≡ sum_by undo_len (updates log t (w ∷ rest)) = bytes_doubt in
      omega arith

  prepare_len : record_len (record_for (log ++ updates log t (w ∷ rest)) t Prepares) ≡ 28
  unfolding record_len
  prepare_len = refl

  pub room_prepared : end_of doubt + reserve_of doubt ≡ end_of log + reserve_of log + room_for log t (w ∷ rest) + 56
  unfolding room_for
  room_prepared =
      let us : List Record = updates log t (w ∷ rest) in
      let a : end_of up ≡ end_of log + sum_by record_len us = end_of-append log us in
      let b : end_of doubt ≡ end_of up + record_len (record_for up t Prepares) = end_of-push up (record_for up t Prepares) in
      let c : record_len (record_for up t Prepares) ≡ 28 = prepare_len in
      let d : reserve_of doubt ≡ reserve_of log + 56 + sum_by undo_len us = reserve_doubt in
      omega arith

  abbrev Fits : List Record → Type 0
  Fits more = end_of (log ++ more) + reserve_of (log ++ more) ≤ end_of log + reserve_of log + room_for log t (w ∷ rest) + 56

  few : (j : ℕ) → Fits (updates log t (take j (w ∷ rest)))
  few j =
      let a : end_of (log ++ updates log t (take j (w ∷ rest))) + reserve_of (log ++ updates log t (take j (w ∷ rest))) ≤ end_of log + reserve_of log + room_for log t (w ∷ rest) = some pages log t v w rest m j in
      omega arith

  all : Fits (prepared log t (w ∷ rest))
  all =
      let e : log ++ prepared log t (w ∷ rest) ≡ doubt = prepared-is pages log t (w ∷ rest) v m in
      let a : end_of (log ++ prepared log t (w ∷ rest)) ≡ end_of doubt = ap end_of e in
      let b : reserve_of (log ++ prepared log t (w ∷ rest)) ≡ reserve_of doubt = ap reserve_of e in
      let c : end_of doubt + reserve_of doubt ≡ end_of log + reserve_of log + room_for log t (w ∷ rest) + 56 = room_prepared in
      omega arith

  pub room-prepared_front : (n : ℕ) → Fits (take n (prepared log t (w ∷ rest)))
  unfolding prepared updates
  room-prepared_front n = subst Fits (sym (take-moved n log t (map Writes (w ∷ rest) ++ Prepares ∷ [])))
      (fronts_prepared (λ moves. Fits (moved log t moves)) n (w ∷ rest) few all)
