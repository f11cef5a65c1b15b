-- Readers of the commits of a valid log see what has won.
use Rattle.std.proofs.Common.{◌≡◌, ℕ, ◌==◌, Bool, true, false, cond, ◌&&◌, ◌||◌, List, [], ◌∷◌, ◌++◌, filter, filter_map, flat_map, find, fold, reverse, Option, Some, None, refl, sym, ap, ◌∙◌, inl, inr, append-nil}
use Rattle.std.specs.List.{cons_option, AllByRecursion}
use Rattle.std.proofs.lemmas.Bool.{cases_Bool, eqb-true, false≢true, and_from}
use Rattle.std.proofs.lemmas.Grind.{flat_map-append}
use Rattle.std.proofs.lemmas.List.{reverse-append}
use Rattle.std.proofs.lemmas.List.Elements.{filter_map-append}
use Rattle.std.proofs.lemmas.List.Sums.{fold-append}
use Rattle.als_record.specs.declared.lsn.Lsn.{Lsn}
use Rattle.als_record.specs.declared.key.Key.{Key}
use Rattle.als_record.specs.declared.record.Body.{Body}
use Rattle.als_record.specs.declared.record.Body.TheVariants.{Update, Compensation, Commit, Rollback, End, BeginCheckpoint, EndCheckpoint, Prepare}
use Rattle.als_record.specs.declared.record.Record.{Record}
use Rattle.als_record.specs.Spelling.{Image}
use Rattle.als_record.specs.Transactions.{is_transactional, is_commit, is_end, is_of, to_undo, surviving, is_committed, has_ended, without_newest, survivors_after, all_surviving}
use Rattle.als_record.specs.Images.{same_key, is_update_at, image_written, image_of_found, won}
use Rattle.als_record.specs.Validity.{is_valid, may_follow}
use Rattle.als_record.specs.Commits.{Commit as AnyCommit, write_of, writes_of, commits_of, after_write, seen_after}
use Rattle.als_record.proofs.Records.{is_committed-own, is_committed-other, has_ended-unended, has_begun-ended}
use Rattle.als_record.proofs.Numbers.{eqb-refl, eqb-sym}
use Rattle.als_record.proofs.Survivors.{is_by, all_surviving-push, all_surviving-by}
use Rattle.als_record.proofs.Standing.{Covers}
use Rattle.als_record.proofs.Validity.{Admitted, valid_induction, is_valid-push, may_follow-admitted}
use Rattle.als_record.proofs.Sound.{Sound, Sound-valid, is_closed, goes_on, only_ends}
use Rattle.als_record.proofs.Takeover.{find-agree, find-without_newest}
use Rattle.als_record.proofs.CommitSteps.{commit_by, commits_of-push}

-- the image of the update found, or else this one
abbrev pub found_or : Image → Option Record → Image
found_or image None = image
found_or image (Some u) = image_written u.body

-- the writes of updates, the newest of which is the first in this list
pub fold-writes : (k : Key) (image : Image) (us : List Record) → fold (after_write k) image (filter_map (λ (u : Record). write_of u.body) (reverse us)) ≡ found_or image (find (λ u. is_update_at k u.body) us)
fold-writes k image [] = refl
fold-writes k image (u ∷ rest) =
    ap (λ xs. fold (after_write k) image (filter_map (λ (u : Record). write_of u.body) xs)) (reverse-append (u ∷ []) rest)
    ∙ ap (fold (after_write k) image) (filter_map-append (λ (u : Record). write_of u.body) (reverse rest) (u ∷ []))
    ∙ fold-append (after_write k) image (filter_map (λ (u : Record). write_of u.body) (reverse rest)) (filter_map (λ (u : Record). write_of u.body) (u ∷ []))
    ∙ ap (λ i. fold (after_write k) i (cons_option (write_of u.body) [])) (fold-writes k image rest)
    ∙ last u.body refl
  where
    last : (b : Body) → u.body ≡ b → fold (after_write k) (found_or image (find (λ u. is_update_at k u.body) rest)) (cons_option (write_of b) []) ≡ found_or image (cond (is_update_at k b) (Some u) (find (λ u. is_update_at k u.body) rest))
    last (Update key before after) e = go (same_key key k)
      where
        go : (c : Bool) → cond c after (found_or image (find (λ u. is_update_at k u.body) rest)) ≡ found_or image (cond c (Some u) (find (λ u. is_update_at k u.body) rest))
        go true = ap image_written (sym e)
        go false = refl
    last (Compensation undo_next key after) e = refl
    last Commit e = refl
    last Rollback e = refl
    last End e = refl
    last BeginCheckpoint e = refl
    last (EndCheckpoint transactions pages) e = refl
    last Prepare e = refl

-- one more commit
seen_after-push : (cs : List AnyCommit) (c : AnyCommit) (k : Key) → seen_after (cs ++ c ∷ []) k ≡ fold (after_write k) (seen_after cs k) c.writes
unfolding seen_after
seen_after-push cs c k =
    ap (fold (after_write k) None) (flat_map-append (λ (c : AnyCommit). c.writes) cs (c ∷ []))
    ∙ fold-append (after_write k) None (flat_map (λ c. c.writes) cs) (flat_map (λ c. c.writes) (c ∷ []))
    ∙ ap (fold (after_write k) (fold (after_write k) None (flat_map (λ c. c.writes) cs))) (append-nil c.writes)

-- ---- a transaction that commits

module _ (closed : ℕ → Bool) (t : ℕ) (open_ : closed t ≡ false) (k : Key) where
  -- below another transaction's update of a key it has none there
  covered : (v : Record) (us : List Record) → (v.trans.0 == t) ≡ false → AllByRecursion (λ u. is_update_at k u.body ≡ true → (u.trans.0 == v.trans.0) ≡ false → closed u.trans.0 ≡ true) us → find (λ u. is_update_at k u.body) (filter (is_by t) us) ≡ None
  covered v [] d c = refl
  covered v (u ∷ us) d c = elim (cases_Bool (u.trans.0 == t)) [
    | inr y ↦ rw y (covered v us d c.1)
    | inl y ↦ elim (cases_Bool (is_update_at k u.body)) [
      | inr z ↦ simp (y, z) (covered v us d c.1)
      | inl z ↦
          let q : u.trans.0 ≡ t = eqb-true u.trans.0 t y in
          let f : closed u.trans.0 ≡ true = c.0 z (ap (λ n. n == v.trans.0) q ∙ eqb-sym t v.trans.0 ∙ d) in
          absurd (false≢true (sym open_ ∙ ap closed (sym q) ∙ f))
    ]
  ]

  -- its newest update of a key wins there
  wins : (c d : ℕ → Bool) → c t ≡ false → d t ≡ true → ((x : ℕ) → (x == t) ≡ false → d x ≡ c x) → (us : List Record) → Covers closed us → image_of_found (find (λ u. is_update_at k u.body && d u.trans.0) us) ≡ found_or (image_of_found (find (λ u. is_update_at k u.body && c u.trans.0) us)) (find (λ u. is_update_at k u.body) (filter (is_by t) us))
  wins c d before now same [] v = refl
  wins c d before now same (u ∷ us) v = elim (cases_Bool (u.trans.0 == t)) [
    | inl y ↦
        let q : u.trans.0 ≡ t = eqb-true u.trans.0 t y in
        let a : d u.trans.0 ≡ true = ap d q ∙ now in
        let b : c u.trans.0 ≡ false = ap c q ∙ before in
        elim (cases_Bool (is_update_at k u.body)) [
          | inl z ↦ simp (y, a, b, z)
          | inr z ↦ simp (y, a, b, z) (wins c d before now same us v.1)
        ]
    | inr y ↦
        let a : d u.trans.0 ≡ c u.trans.0 = same u.trans.0 y in
        elim (cases_Bool (is_update_at k u.body)) [
          | inr z ↦ simp (y, z) (wins c d before now same us v.1)
          | inl z ↦ elim (cases_Bool (c u.trans.0)) [
            | inl w ↦ let b : d u.trans.0 ≡ true = a ∙ w in let n : find (λ u. is_update_at k u.body) (filter (is_by t) us) ≡ None = covered u us y (v.0 k z) in simp (y, z, w, b, n)
            | inr w ↦ let b : d u.trans.0 ≡ false = a ∙ w in simp (y, z, w, b) (wins c d before now same us v.1)
          ]
        ]
  ]

-- ---- one more record

module _ (log : List Record) (r : Record) (s : Sound log) (a : Admitted log r) where
  -- a record that is no commit commits nothing
  committed_same : is_commit r.body ≡ false → (x : ℕ) → is_committed (log ++ r ∷ []) x ≡ is_committed log x
  committed_same c x = elim (cases_Bool (is_of x r)) [
    | inr o ↦ is_committed-other log r x o
    | inl o ↦ is_committed-own log r x o ∙ ap (λ b. is_committed log x || b) c ∙ or-false (is_committed log x)
  ]
    where
      or-false : (b : Bool) → (b || false) ≡ b
      or-false true = refl
      or-false false = refl

  won_same : is_commit r.body ≡ false → (us : List Record) (k : Key) → image_of_found (find (λ u. is_update_at k u.body && is_committed (log ++ r ∷ []) u.trans.0) us) ≡ image_of_found (find (λ u. is_update_at k u.body && is_committed log u.trans.0) us)
  won_same c us k = ap image_of_found (find-agree (λ u. is_update_at k u.body && is_committed (log ++ r ∷ []) u.trans.0) (λ u. is_update_at k u.body && is_committed log u.trans.0) (λ u. ap (λ b. is_update_at k u.body && b) (committed_same c u.trans.0)) us)

  won-update : (key : Key) (before after : Image) → r.body ≡ Update key before after → (k : Key) → won (log ++ r ∷ []) k ≡ won log k
  unfolding won
  won-update key before after b k =
      ap (λ us. image_of_found (find (λ u. is_update_at k u.body && is_committed (log ++ r ∷ []) u.trans.0) us)) (all_surviving-push log r ∙ ap (survivors_after (all_surviving log) r) b)
      ∙ won_same (ap is_commit b) (r ∷ all_surviving log) k
      ∙ ap (λ c. image_of_found (cond (is_update_at k r.body && c) (Some r) (find (λ u. is_update_at k u.body && is_committed log u.trans.0) (all_surviving log)))) (only_ends log r s a (ap is_end b))
      ∙ off (is_update_at k r.body)
    where
      off : (c : Bool) → image_of_found (cond (c && false) (Some r) (find (λ u. is_update_at k u.body && is_committed log u.trans.0) (all_surviving log))) ≡ image_of_found (find (λ u. is_update_at k u.body && is_committed log u.trans.0) (all_surviving log))
      off true = refl
      off false = refl

  won-compensation : (undo_next : Lsn) (key : Key) (after : Image) → r.body ≡ Compensation undo_next key after → (k : Key) → won (log ++ r ∷ []) k ≡ won log k
  unfolding won
  won-compensation undo_next key after b k =
      ap (λ us. image_of_found (find (λ u. is_update_at k u.body && is_committed (log ++ r ∷ []) u.trans.0) us)) (all_surviving-push log r ∙ ap (survivors_after (all_surviving log) r) b)
      ∙ won_same (ap is_commit b) (without_newest r.trans.0 (all_surviving log)) k
      ∙ ap image_of_found (find-without_newest (λ u. is_update_at k u.body && is_committed log u.trans.0) r.trans.0 lost (all_surviving log))
    where
      either : (b : Bool) → (b && false) ≡ false
      either true = refl
      either false = refl

      lost : (u : Record) → (u.trans.0 == r.trans.0) ≡ true → (is_update_at k u.body && is_committed log u.trans.0) ≡ false
      lost u y = ap (λ c. is_update_at k u.body && c) (ap (is_committed log) (eqb-true u.trans.0 r.trans.0 y) ∙ only_ends log r s a (ap is_end b)) ∙ either (is_update_at k u.body)

  won-quiet : is_commit r.body ≡ false → all_surviving (log ++ r ∷ []) ≡ all_surviving log → (k : Key) → won (log ++ r ∷ []) k ≡ won log k
  unfolding won
  won-quiet c e k = ap (λ us. image_of_found (find (λ u. is_update_at k u.body && is_committed (log ++ r ∷ []) u.trans.0) us)) e ∙ won_same c (all_surviving log) k

  -- a commit: what its transaction wrote wins
  won-commit : r.body ≡ Commit → (k : Key) → won (log ++ r ∷ []) k ≡ found_or (won log k) (find (λ u. is_update_at k u.body) (to_undo log r.trans.0))
  unfolding won is_closed
  won-commit b k =
      ap (λ us. image_of_found (find (λ u. is_update_at k u.body && is_committed (log ++ r ∷ []) u.trans.0) us)) (all_surviving-push log r ∙ ap (survivors_after (all_surviving log) r) b)
      ∙ wins (is_closed log) r.trans.0 (ap (λ c. c || has_ended log r.trans.0) uncommitted ∙ unended_one) k (is_committed log) (is_committed (log ++ r ∷ [])) uncommitted committed
      (λ x e. is_committed-other log r x (ap (λ c. is_transactional c && (r.trans.0 == x)) b ∙ eqb-sym r.trans.0 x ∙ e)) (all_surviving log) s.covers
      ∙ ap (λ us. found_or (image_of_found (find (λ u. is_update_at k u.body && is_committed log u.trans.0) (all_surviving log))) (find (λ u. is_update_at k u.body) us)) (all_surviving-by r.trans.0 log)
    where
      uncommitted : is_committed log r.trans.0 ≡ false
      uncommitted = only_ends log r s a (ap is_end b)

      unended_one : has_ended log r.trans.0 ≡ false
      unended_one = elim (cases_Bool (has_ended log r.trans.0)) [
        | inr e ↦ e
        | inl e ↦ has_ended-unended log r.trans.0 (goes_on log r s a (ap is_transactional b) (has_begun-ended log r.trans.0 e))
      ]

      or-true : (c : Bool) → (c || true) ≡ true
      or-true true = refl
      or-true false = refl

      committed : is_committed (log ++ r ∷ []) r.trans.0 ≡ true
      committed = is_committed-own log r r.trans.0 (ap (λ c. is_transactional c && (r.trans.0 == r.trans.0)) b ∙ eqb-refl r.trans.0) ∙ ap (λ c. is_committed log r.trans.0 || is_commit c) b ∙ or-true (is_committed log r.trans.0)

  -- readers see the same
  seen_push : is_valid (log ++ r ∷ []) ≡ true → ((k : Key) → seen_after (commits_of log) k ≡ won log k) → (k : Key) → seen_after (commits_of (log ++ r ∷ [])) k ≡ won (log ++ r ∷ []) k
  unfolding writes_of surviving
  seen_push v h k = go r.body refl
    where
      same : (b : Body) → r.body ≡ b → is_commit b ≡ false → won (log ++ r ∷ []) k ≡ won log k → seen_after (commits_of (log ++ r ∷ [])) k ≡ won (log ++ r ∷ []) k
      same b e c w =
          ap (λ cs. seen_after cs k) (commits_of-push log r v ∙ ap (λ x. commits_of log ++ cond x (commit_by log r ∷ []) []) (ap is_commit e ∙ c) ∙ append-nil (commits_of log))
          ∙ h k ∙ sym w

      go : (b : Body) → r.body ≡ b → seen_after (commits_of (log ++ r ∷ [])) k ≡ won (log ++ r ∷ []) k
      go (Update key before after) e = same (Update key before after) e refl (won-update key before after e k)
      go (Compensation undo_next key after) e = same (Compensation undo_next key after) e refl (won-compensation undo_next key after e k)
      go Commit e =
          ap (λ cs. seen_after cs k) (commits_of-push log r v ∙ ap (λ x. commits_of log ++ cond (is_commit x) (commit_by log r ∷ []) []) e)
          ∙ seen_after-push (commits_of log) (commit_by log r) k
          ∙ fold-writes k (seen_after (commits_of log) k) (to_undo log r.trans.0)
          ∙ ap (λ i. found_or i (find (λ u. is_update_at k u.body) (to_undo log r.trans.0))) (h k)
          ∙ sym (won-commit e k)
      go Rollback e = same Rollback e refl (won-quiet (ap is_commit e) (all_surviving-push log r ∙ ap (survivors_after (all_surviving log) r) e) k)
      go End e = same End e refl (won-quiet (ap is_commit e) (all_surviving-push log r ∙ ap (survivors_after (all_surviving log) r) e) k)
      go BeginCheckpoint e = same BeginCheckpoint e refl (won-quiet (ap is_commit e) (all_surviving-push log r ∙ ap (survivors_after (all_surviving log) r) e) k)
      go (EndCheckpoint transactions pages) e = same (EndCheckpoint transactions pages) e refl (won-quiet (ap is_commit e) (all_surviving-push log r ∙ ap (survivors_after (all_surviving log) r) e) k)
      go Prepare e = same Prepare e refl (won-quiet (ap is_commit e) (all_surviving-push log r ∙ ap (survivors_after (all_surviving log) r) e) k)

seen-nil : (k : Key) → seen_after (commits_of []) k ≡ won [] k
unfolding seen_after commits_of won all_surviving
seen-nil k = refl

-- what readers see after the commits of a valid log is what has won in it
pub seen_after-commits_of : (log : List Record) → is_valid log ≡ true → (k : Key) → seen_after (commits_of log) k ≡ won log k
seen_after-commits_of log v = valid_induction (λ l. (k : Key) → seen_after (commits_of l) k ≡ won l k) seen-nil (λ l r w h a. seen_push l r (Sound-valid l w) a (is_valid-push l r ∙ and_from (is_valid l) (may_follow l r) w (may_follow-admitted l r a)) h) log v
