-- The last write of a key: behind a transaction, and what it says of a key that is unchanged.
use Rattle.std.proofs.Common.{◌≡◌, ℕ, ◌+◌, ◌<◌, ◌≤◌, Bool, true, false, cond, List, [], ◌∷◌, ◌++◌, fold, refl, sym, ap, ◌∙◌, inl, inr, None, subst, arith, append_assoc, append-nil}
use Rattle.std.specs.List.{list_any, flat_map, AllByRecursion}
use Rattle.std.proofs.lemmas.Bool.{cases_Bool, and_parts, or_parts}
use Rattle.std.proofs.lemmas.List.Sums.{fold-append}
use Rattle.std.proofs.lemmas.Grind.{flat_map-append}
use Rattle.std.proofs.lemmas.List.Concat.{flat_map-cons}
use Rattle.als_record.specs.declared.key.Key.{Key}
use Rattle.als_record.specs.declared.record.Record.{Record}
use Rattle.als_record.specs.Spelling.{Image, record_len}
use Rattle.als_record.specs.LogText.{end_of}
use Rattle.als_record.specs.Transactions.{is_commit}
use Rattle.als_record.specs.Images.{same_key}
use Rattle.als_record.specs.Validity.{may_follow, is_valid}
use Rattle.als_record.specs.Commits.{Write, Commit as AnyCommit, commits_of, after_write, seen_after}
use Rattle.als_record.proofs.Validity.{is_valid-front, is_valid-push, Admitted-may_follow}
use Rattle.als_record.proofs.Places.{end_of-push}
use Rattle.als_record.proofs.CommitSteps.{commit_by, commits_of-push}
use Rattle.als_writing.specs.Writing.{updates, transaction, last_write, MayWrite}
use Rattle.als_writing.proofs.Committing.{Committed-transaction}

-- whether a commit writes a key
abbrev pub writes_key : Key → AnyCommit → Bool
writes_key k c = list_any (λ w. same_key w.key k) c.writes

abbrev last_after : Key → ℕ → AnyCommit → ℕ
last_after k last c = cond (writes_key k c) c.lsn.0 last

-- ---- behind a transaction

pub last_write-transaction : (pages : ℕ) (log : List Record) (t : ℕ) (writes : List Write) → is_valid log ≡ true → MayWrite pages log t writes → (k : Key)
    → last_write (log ++ transaction log t writes) k ≡ cond (list_any (λ w. same_key w.key k) writes) (end_of (log ++ updates log t writes)) (last_write log k)
unfolding last_write
last_write-transaction pages log t writes v m k =
    let c : AnyCommit = record { trans = record { 0 = t }; lsn = record { 0 = end_of (log ++ updates log t writes) }; writes = writes } in
    ap (fold (last_after k) 0) (Committed-transaction pages log t writes v m).commits
    ∙ fold-append (last_after k) 0 (commits_of log) (c ∷ [])

-- ---- the commits of more records

record MoreCommits (log more : List Record) (n : ℕ) : Type 0 where
  others : List AnyCommit
  commits : commits_of (log ++ more) ≡ commits_of log ++ others
  above : AllByRecursion (λ c. n ≤ c.lsn.0) others

module _ (log : List Record) (r : Record) (rest : List Record) (n : ℕ) (v : is_valid (log ++ r ∷ rest) ≡ true) (h : n ≤ end_of log) where
  split : log ++ r ∷ rest ≡ (log ++ r ∷ []) ++ rest
  split = sym (append_assoc log (r ∷ []) rest)

  valid : is_valid (log ++ r ∷ []) ≡ true
  valid = is_valid-front (log ++ r ∷ []) rest (ap is_valid (sym split) ∙ v)

  place : r.lsn.0 ≡ end_of log
  place = (Admitted-may_follow log r (and_parts (is_valid log) (may_follow log r) (sym (is_valid-push log r) ∙ valid)).1).place

  longer : n ≤ end_of (log ++ r ∷ [])
  longer = let a : end_of (log ++ r ∷ []) ≡ end_of log + record_len r = end_of-push log r in omega arith

  first : List AnyCommit
  first = cond (is_commit r.body) (commit_by log r ∷ []) []

  one_more : MoreCommits (log ++ r ∷ []) rest n → MoreCommits log (r ∷ rest) n
  unfolding first
  one_more later = record {
    others = first ++ later.others;
    commits = ap commits_of split ∙ later.commits ∙ ap (λ cs. cs ++ later.others) (commits_of-push log r valid) ∙ append_assoc (commits_of log) first later.others;
    above = go (is_commit r.body);
  }
    where
      go : (b : Bool) → AllByRecursion (λ c. n ≤ c.lsn.0) (cond b (commit_by log r ∷ []) [] ++ later.others)
      go true = (let e : r.lsn.0 ≡ end_of log = place in omega arith, later.above)
      go false = later.above

more_commits : (more : List Record) (log : List Record) (n : ℕ) → is_valid (log ++ more) ≡ true → n ≤ end_of log → MoreCommits log more n
more_commits [] log n v h = record { others = []; commits = ap commits_of (append-nil log) ∙ sym (append-nil (commits_of log)); above = tt }
more_commits (r ∷ rest) log n v h = one_more log r rest n v h (more_commits rest (log ++ r ∷ []) n (ap is_valid (sym (split log r rest n v h)) ∙ v) (longer log r rest n v h))

-- ---- a key that none of them writes

module _ (k : Key) (l : ℕ) where
  stays_above : (cs : List AnyCommit) (last : ℕ) → AllByRecursion (λ c. l + 1 ≤ c.lsn.0) cs → l < last → l < fold (last_after k) last cs
  stays_above [] last a h = h
  stays_above (c ∷ cs) last a h = stays_above cs (last_after k last c) a.1 (go (writes_key k c))
    where
      go : (b : Bool) → l < cond b c.lsn.0 last
      go true = let f : l + 1 ≤ c.lsn.0 = a.0 in omega arith
      go false = h

  none_writes : (cs : List AnyCommit) (last : ℕ) → AllByRecursion (λ c. l + 1 ≤ c.lsn.0) cs → fold (last_after k) last cs ≤ l → AllByRecursion (λ c. writes_key k c ≡ false) cs
  none_writes [] last a h = tt
  none_writes (c ∷ cs) last a h = elim (cases_Bool (writes_key k c)) [
    | inr n ↦ (n, none_writes cs last a.1 (subst (λ b. fold (last_after k) (cond b c.lsn.0 last) cs ≤ l) n h))
    | inl y ↦
        let f : l + 1 ≤ c.lsn.0 = a.0 in
        let g : l < fold (last_after k) c.lsn.0 cs = stays_above cs c.lsn.0 a.1 (omega arith) in
        let i : fold (last_after k) c.lsn.0 cs ≤ l = subst (λ b. fold (last_after k) (cond b c.lsn.0 last) cs ≤ l) y h in
        absurd (omega arith)
  ]

unwritten : (k : Key) (image : Image) (ws : List Write) → list_any (λ w. same_key w.key k) ws ≡ false → fold (after_write k) image ws ≡ image
unwritten k image [] n = refl
unwritten k image (w ∷ ws) n =
    let p : (same_key w.key k ≡ false) × (list_any (λ w. same_key w.key k) ws ≡ false) = or_parts (same_key w.key k) (list_any (λ w. same_key w.key k) ws) n in
    ap (λ b. fold (after_write k) (cond b w.after image) ws) p.0 ∙ unwritten k image ws p.1

unseen : (k : Key) (image : Image) (cs : List AnyCommit) → AllByRecursion (λ c. writes_key k c ≡ false) cs → fold (after_write k) image (flat_map (λ c. c.writes) cs) ≡ image
unseen k image [] a = refl
unseen k image (c ∷ cs) a =
    ap (fold (after_write k) image) (flat_map-cons (λ (c : AnyCommit). c.writes) c cs)
    ∙ fold-append (after_write k) image c.writes (flat_map (λ c. c.writes) cs)
    ∙ ap (λ i. fold (after_write k) i (flat_map (λ c. c.writes) cs)) (unwritten k image c.writes a.0)
    ∙ unseen k image cs a.1

-- readers see at the key what they saw then
pub unchanged-seen : (log more : List Record) (k : Key) (l : ℕ) → is_valid (log ++ more) ≡ true → l < end_of log → last_write (log ++ more) k ≤ l → seen_after (commits_of (log ++ more)) k ≡ seen_after (commits_of log) k
unfolding seen_after last_write
unchanged-seen log more k l v below h =
    let m : MoreCommits log more (l + 1) = more_commits more log (l + 1) v (omega arith) in
    let folded : fold (last_after k) (fold (last_after k) 0 (commits_of log)) m.others ≤ l = subst (λ n. n ≤ l) (ap (fold (last_after k) 0) m.commits ∙ fold-append (last_after k) 0 (commits_of log) m.others) h in
    ap (λ cs. fold (after_write k) None (flat_map (λ c. c.writes) cs)) m.commits
    ∙ ap (fold (after_write k) None) (flat_map-append (λ (c : AnyCommit). c.writes) (commits_of log) m.others)
    ∙ fold-append (after_write k) None (flat_map (λ c. c.writes) (commits_of log)) (flat_map (λ c. c.writes) m.others)
    ∙ unseen k (fold (after_write k) None (flat_map (λ c. c.writes) (commits_of log))) m.others (none_writes k l m.others (fold (last_after k) 0 (commits_of log)) m.above folded)
