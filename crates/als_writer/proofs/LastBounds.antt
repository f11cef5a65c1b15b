-- The last commit of a key, and what bounds it.
use Rattle.std.proofs.Common.{◌≡◌, ℕ, zero, suc, ◌+◌, ◌*◌, ◌<◌, ◌≤◌, Bool, true, false, cond, ◌&&◌, ◌||◌, List, [], ◌∷◌, ◌++◌, length, take, set, get_or, refl, sym, ap, subst, ◌∙◌, arith, append-nil, get_or-set_other, get_or-set_same}
use Rattle.std.specs.List.{fold, list_any, AllByRecursion}
use Rattle.std.proofs.lemmas.Bool.{false≢true, eq-eqb, cond_both}
use Rattle.std.proofs.lemmas.List.Sums.{fold-append}
use Rattle.std.proofs.lemmas.List.Folds.{list_any_more}
use Rattle.als_record.specs.declared.key.Key.{Key}
use Rattle.als_record.specs.declared.record.Record.{Record}
use Rattle.als_record.specs.LogText.{end_of}
use Rattle.als_record.specs.Transactions.{is_commit}
use Rattle.als_record.specs.Images.{same_key}
use Rattle.als_record.specs.Validity.{is_valid, may_follow}
use Rattle.als_record.specs.Commits.{Write, Commit, commits_of}
use Rattle.als_record.proofs.Validity.{valid_induction, is_valid-push, may_follow-admitted}
use Rattle.als_record.proofs.Places.{end_of-push}
use Rattle.als_record.proofs.Standing.{same_key-true}
use Rattle.als_record.proofs.CommitSteps.{commits_of-push, commit_by}
use Rattle.als_tables.specs.Counting.{last_commit}
use Rattle.als_tables.proofs.Counts.{last_commit-push}
use Rattle.als_writing.specs.Writing.{last_write}
use Rattle.als_writer.specs.Changes.{AreBounds, place_of}

module _ (k : Key) where
  last_write-same : (log more : List Record) → commits_of more ≡ commits_of log → last_write more k ≡ last_write log k
  unfolding last_write
  last_write-same log more e = ap (λ (cs : List Commit). fold (λ (last : ℕ) (c : Commit). cond (list_any (λ (w : Write). same_key w.key k) c.writes) c.lsn.0 last) 0 cs) e

  last_write-more : (log more : List Record) (c : Commit) → commits_of more ≡ commits_of log ++ c ∷ [] → last_write more k ≡ cond (list_any (λ (w : Write). same_key w.key k) c.writes) c.lsn.0 (last_write log k)
  unfolding last_write
  last_write-more log more c e =
      ap (λ (cs : List Commit). fold (λ (last : ℕ) (c : Commit). cond (list_any (λ (w : Write). same_key w.key k) c.writes) c.lsn.0 last) 0 cs) e
      ∙ fold-append (λ (last : ℕ) (c : Commit). cond (list_any (λ (w : Write). same_key w.key k) c.writes) c.lsn.0 last) 0 (commits_of log) (c ∷ [])

  record Bounded (log : List Record) : Type 0 where
    pub below : last_write log k ≤ last_commit log
    pub within : last_commit log ≤ end_of log

  bounded_none : Bounded []
  unfolding last_write last_commit commits_of
  bounded_none = record { below = omega arith; within = omega arith }

  bounded_by : (b : Bool) (log : List Record) (r : Record) → is_commit r.body ≡ b → is_valid (log ++ r ∷ []) ≡ true → r.lsn.0 ≡ end_of log → Bounded log → Bounded (log ++ r ∷ [])
  bounded_by false log r e v at h =
      let same : commits_of (log ++ r ∷ []) ≡ commits_of log = commits_of-push log r v ∙ ap (λ (b : Bool). commits_of log ++ cond b (commit_by log r ∷ []) []) e ∙ append-nil (commits_of log) in
      let write : last_write (log ++ r ∷ []) k ≡ last_write log k = last_write-same log (log ++ r ∷ []) same in
      let commit : last_commit (log ++ r ∷ []) ≡ last_commit log = last_commit-push log r ∙ ap (λ (b : Bool). cond b r.lsn.0 (last_commit log)) e in
      let ends = end_of-push log r in
      record { below = omega (arith, write, commit, h.below); within = omega (arith, commit, ends, h.within) }
  bounded_by true log r e v at h =
      let more : commits_of (log ++ r ∷ []) ≡ commits_of log ++ commit_by log r ∷ [] = commits_of-push log r v ∙ ap (λ (b : Bool). commits_of log ++ cond b (commit_by log r ∷ []) []) e in
      let write = last_write-more log (log ++ r ∷ []) (commit_by log r) more in
      let commit : last_commit (log ++ r ∷ []) ≡ r.lsn.0 = last_commit-push log r ∙ ap (λ (b : Bool). cond b r.lsn.0 (last_commit log)) e in
      let ends = end_of-push log r in
      let below : cond (list_any (λ (w : Write). same_key w.key k) (commit_by log r).writes) r.lsn.0 (last_write log k) ≤ r.lsn.0 =
      cond_both (list_any (λ (w : Write). same_key w.key k) (commit_by log r).writes) r.lsn.0 (last_write log k) (λ x. x ≤ r.lsn.0) (λ y. omega arith) (λ n. omega (arith, h.below, h.within, at)) in
      record { below = omega (arith, write, commit, below); within = omega (arith, commit, ends, at) }

  pub last_write-below : (log : List Record) → is_valid log ≡ true → last_write log k ≤ last_commit log
  last_write-below log v = (valid_induction Bounded bounded_none (λ l r valid h a. bounded_by (is_commit r.body) l r refl (is_valid-push l r ∙ ap (λ (b : Bool). b && may_follow l r) valid ∙ may_follow-admitted l r a) a.place h) log v).below

  last_write-within : (log : List Record) → is_valid log ≡ true → last_write log k ≤ end_of log
  last_write-within log v =
      let b : Bounded log = valid_induction Bounded bounded_none (λ l r valid h a. bounded_by (is_commit r.body) l r refl (is_valid-push l r ∙ ap (λ (b : Bool). b && may_follow l r) valid ∙ may_follow-admitted l r a) a.place h) log v in
      omega (arith, b.below, b.within)

-- all at the end of the log, where a commit may come next
pub AreBounds-raised : (old bounds : List ℕ) (pages : ℕ) (log more : List Record) (c : Commit) → is_valid log ≡ true → AreBounds old pages log → commits_of more ≡ commits_of log ++ c ∷ [] → c.lsn.0 ≡ end_of log → length bounds ≡ length old → ((i : ℕ) (d : ℕ) → i < length old → get_or bounds i d ≡ end_of log) → AreBounds bounds pages more
AreBounds-raised old bounds pages log more c v a e at len all = record {
  count = len ∙ a.count;
  each = λ k d p s.
      let before : last_write log k ≤ end_of log = last_write-within k log v in
      let here : get_or bounds (place_of k) d ≡ end_of log = all (place_of k) d (omega (arith, p, s, a.count)) in
      let now = last_write-more k log more c e in
      let below : cond (list_any (λ (w : Write). same_key w.key k) c.writes) c.lsn.0 (last_write log k) ≤ end_of log =
      cond_both (list_any (λ (w : Write). same_key w.key k) c.writes) c.lsn.0 (last_write log k) (λ x. x ≤ end_of log) (λ y. omega (arith, at)) (λ n. before) in
      omega (arith, here, now, below);
}

-- all at the last commit
pub AreBounds-new : (bounds : List ℕ) (pages last : ℕ) (log : List Record) → is_valid log ≡ true → last ≡ last_commit log → length bounds ≡ pages * 15 → ((i : ℕ) (d : ℕ) → i < pages * 15 → get_or bounds i d ≡ last) → AreBounds bounds pages log
AreBounds-new bounds pages last log v e count all = record {
  count = count;
  each = λ k d p s. let b = last_write-below k log v in let here = all (place_of k) d (omega (arith, p, s)) in omega (arith, b, here, e);
}

-- the same commits have the same bounds
pub AreBounds-same : (bounds : List ℕ) (pages : ℕ) (log more : List Record) → commits_of more ≡ commits_of log → AreBounds bounds pages log → AreBounds bounds pages more
AreBounds-same bounds pages log more e a = record {
  count = a.count;
  each = λ k d p s. let b : last_write more k ≡ last_write log k = last_write-same k log more e in let h = a.each k d p s in omega (arith, b, h);
}

pub last_write-commit : (log more : List Record) (c : Commit) → commits_of more ≡ commits_of log ++ c ∷ [] → (k : Key) → last_write more k ≡ cond (list_any (λ (w : Write). same_key w.key k) c.writes) c.lsn.0 (last_write log k)
last_write-commit log more c e k = last_write-more k log more c e

-- ---- one key more is noted

place-other : (k l : Key) → k.slot ≤ 14 → l.slot ≤ 14 → same_key k l ≡ false → place_of k ≡ place_of l → ⊥
place-other k l s t d e = false≢true (sym d ∙ same)
  where
    page : k.page ≡ l.page
    page = omega arith

    slot : k.slot ≡ l.slot
    slot = omega arith

    same : same_key k l ≡ true
    same = rw (eq-eqb k.page l.page page, eq-eqb k.slot l.slot slot) refl

noted_by : (b any : Bool) (bounds : List ℕ) (key k : Key) (lsn was d : ℕ) → same_key key k ≡ b → key.slot ≤ 14 → k.slot ≤ 14 → place_of key < length bounds → get_or bounds (place_of k) d ≡ cond any lsn was → get_or (set bounds (place_of key) lsn) (place_of k) d ≡ cond (any || b) lsn was
noted_by true any bounds key k lsn was d e s t within before =
    let f : key ≡ k = same_key-true key k e in
    ap (λ (x : Key). get_or (set bounds (place_of key) lsn) (place_of x) d) (sym f) ∙ get_or-set_same bounds (place_of key) lsn d within ∙ sym (both any)
  where
    both : (x : Bool) → cond (x || true) lsn was ≡ lsn
    both true = refl
    both false = refl
noted_by false any bounds key k lsn was d e s t within before =
    get_or-set_other bounds (place_of key) (place_of k) lsn d (λ q. place-other key k s t e (sym q)) ∙ before ∙ sym (same any)
  where
    same : (x : Bool) → cond (x || false) lsn was ≡ cond x lsn was
    same true = refl
    same false = refl

pub noted_more : (bounds : List ℕ) (ws : List Write) (i : ℕ) (w : Write) (k : Key) (lsn was d : ℕ) → i < length ws → w ≡ get_or ws i w → w.key.slot ≤ 14 → k.slot ≤ 14 → place_of w.key < length bounds → get_or bounds (place_of k) d ≡ cond (list_any (λ (v : Write). same_key v.key k) (take i ws)) lsn was → get_or (set bounds (place_of w.key) lsn) (place_of k) d ≡ cond (list_any (λ (v : Write). same_key v.key k) (take (i + 1) ws)) lsn was
noted_more bounds ws i w k lsn was d lt at s t within before =
    noted_by (same_key w.key k) (list_any (λ (v : Write). same_key v.key k) (take i ws)) bounds w.key k lsn was d refl s t within before
    ∙ ap (λ (b : Bool). cond b lsn was) (ap (λ (v : Write). list_any (λ (v : Write). same_key v.key k) (take i ws) || same_key v.key k) at ∙ sym (list_any_more (λ (v : Write). same_key v.key k) ws i w lt))

pub all_at : (P : Write → Type 0) (ws : List Write) (i : ℕ) (w : Write) → AllByRecursion P ws → i < length ws → w ≡ get_or ws i w → P w
all_at P [] i w a lt e = absurd (omega arith)
all_at P (x ∷ ws) zero w a lt e = subst P (sym e) a.0
all_at P (x ∷ ws) (suc i) w a lt e = all_at P ws i w a.1 (omega arith) e

pub AreBounds-noted : (old bounds : List ℕ) (pages lsn : ℕ) (ws : List Write) (log more : List Record) → AreBounds old pages log → length bounds ≡ length old → ((k : Key) (d : ℕ) → k.page < pages → k.slot ≤ 14 → get_or bounds (place_of k) d ≡ cond (list_any (λ (w : Write). same_key w.key k) ws) lsn (get_or old (place_of k) d)) → ((k : Key) → last_write more k ≡ cond (list_any (λ (w : Write). same_key w.key k) ws) lsn (last_write log k)) → AreBounds bounds pages more
AreBounds-noted old bounds pages lsn ws log more a len now last = record {
  count = len ∙ a.count;
  each = λ k d p s. bounded (list_any (λ (w : Write). same_key w.key k) ws) (last_write more k) (get_or bounds (place_of k) d) (last_write log k) (get_or old (place_of k) d) (last k) (now k d p s) (a.each k d p s);
}
  where
    bounded : (b : Bool) (x y u v : ℕ) → x ≡ cond b lsn u → y ≡ cond b lsn v → u ≤ v → x ≤ y
    bounded true x y u v e f h = omega (arith, e, f)
    bounded false x y u v e f h = omega (arith, e, f, h)
