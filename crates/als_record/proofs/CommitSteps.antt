-- The commits of a valid log, with one more record: a commit record adds one, others none.
use Rattle.std.proofs.Common.{◌≡◌, ℕ, ◌==◌, Bool, true, false, cond, List, [], ◌∷◌, ◌++◌, map, filter, filter_map, reverse, refl, sym, ap, ◌∙◌, inl, inr, append-nil, append_assoc}
use Rattle.std.specs.List.{list_any, AllByRecursion}
use Rattle.std.proofs.lemmas.Bool.{cases_Bool, eqb-true, false≢true, and_parts, or_right}
use Rattle.std.proofs.lemmas.List.{map-append}
use Rattle.std.proofs.lemmas.List.Elements.{filter-append}
use Rattle.als_record.specs.declared.record.Body.{Body}
use Rattle.als_record.specs.declared.record.Body.TheVariants.{Update, Compensation, Commit, Rollback, End, BeginCheckpoint, EndCheckpoint, Prepare}
use Rattle.als_record.specs.declared.record.Record.{Record}
use Rattle.als_record.specs.Transactions.{is_transactional, is_commit, is_end, is_of, records_of, to_undo_after, to_undo, surviving, is_committed}
use Rattle.als_record.specs.Validity.{may_follow, is_valid}
use Rattle.als_record.specs.Commits.{Commit as AnyCommit, write_of, writes_of, commits_of}
use Rattle.als_record.proofs.Records.{to_undo-own, to_undo-other, is_committed-own, is_committed-grows}
use Rattle.als_record.proofs.Numbers.{eqb-refl}
use Rattle.als_record.proofs.Survivors.{All-weaken, log_induction}
use Rattle.als_record.proofs.Validity.{is_valid-front, Admitted, Admitted-may_follow, is_valid-push}
use Rattle.als_record.proofs.Sound.{Sound, Sound-valid, only_ends}

-- a commit record's commit
abbrev pub commit_by : List Record → Record → AnyCommit
commit_by log r = record { trans = r.trans; lsn = r.lsn; writes = writes_of log r.trans.0 }

-- a commit record says that its transaction is committed
committers : (log : List Record) → AllByRecursion (λ r. is_committed log r.trans.0 ≡ true) (filter (λ r. is_commit r.body) log)
committers log = log_induction (λ l. AllByRecursion (λ r. is_committed l r.trans.0 ≡ true) (filter (λ r. is_commit r.body) l)) tt more log
  where
    push : (l : List Record) (us : List Record) (r : Record) → AllByRecursion (λ u. is_committed l u.trans.0 ≡ true) us → is_committed l r.trans.0 ≡ true → AllByRecursion (λ u. is_committed l u.trans.0 ≡ true) (us ++ r ∷ [])
    push l [] r a e = (e, tt)
    push l (u ∷ us) r a e = (a.0, push l us r a.1 e)

    transactional : (b : Body) → is_commit b ≡ true → is_transactional b ≡ true
    transactional Commit e = refl
    transactional (Update key before after) e = refl
    transactional (Compensation undo_next key after) e = refl
    transactional Rollback e = refl
    transactional End e = refl
    transactional BeginCheckpoint e = absurd (false≢true e)
    transactional (EndCheckpoint transactions pages) e = absurd (false≢true e)
    transactional Prepare e = refl

    more : (l : List Record) (r : Record) → AllByRecursion (λ u. is_committed l u.trans.0 ≡ true) (filter (λ u. is_commit u.body) l) → AllByRecursion (λ u. is_committed (l ++ r ∷ []) u.trans.0 ≡ true) (filter (λ u. is_commit u.body) (l ++ r ∷ []))
    more l r a = rw (filter-append (λ (u : Record). is_commit u.body) l (r ∷ [])) (go (is_commit r.body) refl)
      where
        kept : AllByRecursion (λ u. is_committed (l ++ r ∷ []) u.trans.0 ≡ true) (filter (λ u. is_commit u.body) l)
        kept = All-weaken (λ u. is_committed l u.trans.0 ≡ true) (λ u. is_committed (l ++ r ∷ []) u.trans.0 ≡ true) (λ u. is_committed-grows l r u.trans.0) (filter (λ u. is_commit u.body) l) a

        go : (b : Bool) → is_commit r.body ≡ b → AllByRecursion (λ u. is_committed (l ++ r ∷ []) u.trans.0 ≡ true) (filter (λ u. is_commit u.body) l ++ cond b (r ∷ []) [])
        go true e = push (l ++ r ∷ []) (filter (λ u. is_commit u.body) l) r kept (is_committed-own l r r.trans.0 (rw (transactional r.body e, eqb-refl r.trans.0) refl) ∙ or_right (is_committed l r.trans.0) (is_commit r.body) e)
        go false e = rw append-nil kept

module _ (log : List Record) (r : Record) (s : Sound log) (a : Admitted log r) where
  -- what a committed transaction wrote stays
  writes_stay : (t : ℕ) → is_committed log t ≡ true → writes_of (log ++ r ∷ []) t ≡ writes_of log t
  unfolding writes_of surviving
  writes_stay t c = ap (λ us. filter_map (λ (u : Record). write_of u.body) (reverse us)) (elim (cases_Bool (is_of t r)) [
    | inr o ↦ to_undo-other log r t o
    | inl o ↦ to_undo-own log r t o ∙ ended r.body (over (eqb-true r.trans.0 t (and_parts (is_transactional r.body) (r.trans.0 == t) o).1))
  ])
    where
      over : r.trans.0 ≡ t → is_end r.body ≡ true
      over q = elim (cases_Bool (is_end r.body)) [
        | inl e ↦ e
        | inr e ↦ absurd (false≢true (sym (only_ends log r s a e) ∙ ap (is_committed log) q ∙ c))
      ]

      ended : (b : Body) → is_end b ≡ true → to_undo_after (to_undo log t) r b ≡ to_undo log t
      ended End e = refl
      ended (Update key before after) e = absurd (false≢true e)
      ended (Compensation undo_next key after) e = absurd (false≢true e)
      ended Commit e = refl
      ended Rollback e = refl
      ended BeginCheckpoint e = refl
      ended (EndCheckpoint transactions pages) e = refl
      ended Prepare e = refl

  -- and what a transaction has written when it commits
  writes_at_commit : is_commit r.body ≡ true → writes_of (log ++ r ∷ []) r.trans.0 ≡ writes_of log r.trans.0
  unfolding writes_of surviving
  writes_at_commit e = ap (λ us. filter_map (λ (u : Record). write_of u.body) (reverse us)) (go r.body refl e)
    where
      go : (b : Body) → r.body ≡ b → is_commit b ≡ true → to_undo (log ++ r ∷ []) r.trans.0 ≡ to_undo log r.trans.0
      go Commit q e = to_undo-own log r r.trans.0 (rw (q, eqb-refl r.trans.0) refl) ∙ rw q refl
      go (Update key before after) q e = absurd (false≢true e)
      go (Compensation undo_next key after) q e = absurd (false≢true e)
      go Rollback q e = absurd (false≢true e)
      go End q e = absurd (false≢true e)
      go BeginCheckpoint q e = absurd (false≢true e)
      go (EndCheckpoint transactions pages) q e = absurd (false≢true e)
      go Prepare q e = absurd (false≢true e)

  commits_push : commits_of (log ++ r ∷ []) ≡ commits_of log ++ cond (is_commit r.body) (commit_by log r ∷ []) []
  unfolding commits_of
  commits_push =
      ap (map (commit_by (log ++ r ∷ []))) (filter-append (λ (u : Record). is_commit u.body) log (r ∷ []))
      ∙ map-append (commit_by (log ++ r ∷ [])) (filter (λ u. is_commit u.body) log) (filter (λ u. is_commit u.body) (r ∷ []))
      ∙ ap (λ cs. cs ++ map (commit_by (log ++ r ∷ [])) (cond (is_commit r.body) (r ∷ []) [])) (each (filter (λ u. is_commit u.body) log) (committers log))
      ∙ ap (λ cs. map (commit_by log) (filter (λ u. is_commit u.body) log) ++ cs) (last (is_commit r.body) refl)
    where
      one : (u : Record) → writes_of (log ++ r ∷ []) u.trans.0 ≡ writes_of log u.trans.0 → commit_by (log ++ r ∷ []) u ≡ commit_by log u
      one u e = ap (λ ws. let c : AnyCommit = record { trans = u.trans; lsn = u.lsn; writes = ws } in c) e

      each : (us : List Record) → AllByRecursion (λ u. is_committed log u.trans.0 ≡ true) us → map (commit_by (log ++ r ∷ [])) us ≡ map (commit_by log) us
      each [] b = refl
      each (u ∷ us) b = cc (each us b.1, one u (writes_stay u.trans.0 b.0))

      last : (b : Bool) → is_commit r.body ≡ b → map (commit_by (log ++ r ∷ [])) (cond b (r ∷ []) []) ≡ cond b (commit_by log r ∷ []) []
      last true e = ap (λ c. c ∷ []) (one r (writes_at_commit e))
      last false e = refl

-- one more record of a valid log
pub commits_of-push : (log : List Record) (r : Record) → is_valid (log ++ r ∷ []) ≡ true → commits_of (log ++ r ∷ []) ≡ commits_of log ++ cond (is_commit r.body) (commit_by log r ∷ []) []
commits_of-push log r v =
    let parts : (is_valid log ≡ true) × (may_follow log r ≡ true) = and_parts (is_valid log) (may_follow log r) (sym (is_valid-push log r) ∙ v) in
    commits_push log r (Sound-valid log parts.0) (Admitted-may_follow log r parts.1)

-- who is committed is read off the commits
pub is_committed-commits_of : (log : List Record) (t : ℕ) → is_committed log t ≡ list_any (λ c. c.trans.0 == t) (commits_of log)
unfolding is_committed records_of commits_of
is_committed-commits_of log t = go log
  where
    kind : (b : Body) → is_commit b ≡ true → is_transactional b ≡ true
    kind Commit e = refl
    kind (Update key before after) e = refl
    kind (Compensation undo_next key after) e = refl
    kind Rollback e = refl
    kind End e = refl
    kind BeginCheckpoint e = absurd (false≢true e)
    kind (EndCheckpoint transactions pages) e = absurd (false≢true e)
    kind Prepare e = refl

    step : (r : Record) (us cs : List Record) → list_any (λ u. is_commit u.body) us ≡ list_any (λ c. c.trans.0 == t) (map (commit_by log) cs) → list_any (λ u. is_commit u.body) (cond (is_of t r) (r ∷ us) us) ≡ list_any (λ c. c.trans.0 == t) (map (commit_by log) (cond (is_commit r.body) (r ∷ cs) cs))
    step r us cs ih = elim (cases_Bool (is_commit r.body)) [
      | inl c ↦ let w : is_transactional r.body ≡ true = kind r.body c in elim (cases_Bool (r.trans.0 == t)) [
        | inl e ↦ simp (c, w, e)
        | inr e ↦ simp (c, w, e) ih
      ]
      | inr c ↦ elim (cases_Bool (is_of t r)) [
        | inl o ↦ simp (c, o) ih
        | inr o ↦ simp (c, o) ih
      ]
    ]

    go : (us : List Record) → list_any (λ u. is_commit u.body) (filter (is_of t) us) ≡ list_any (λ c. c.trans.0 == t) (map (commit_by log) (filter (λ u. is_commit u.body) us))
    go [] = refl
    go (r ∷ rest) = step r (filter (is_of t) rest) (filter (λ u. is_commit u.body) rest) (go rest)

-- the commits of a front are a front of the commits
pub commits_of-front : (log more : List Record) → is_valid (log ++ more) ≡ true → (cs : List AnyCommit) × (commits_of (log ++ more) ≡ commits_of log ++ cs)
commits_of-front log [] v = ([], ap commits_of (append-nil log) ∙ sym (append-nil (commits_of log)))
commits_of-front log (r ∷ rest) v =
    let a : (log ++ r ∷ []) ++ rest ≡ log ++ (r ∷ rest) = append_assoc log (r ∷ []) rest in
    let w : is_valid ((log ++ r ∷ []) ++ rest) ≡ true = ap is_valid a ∙ v in
    let one : List AnyCommit = cond (is_commit r.body) (commit_by log r ∷ []) [] in
    let later : (cs : List AnyCommit) × (commits_of ((log ++ r ∷ []) ++ rest) ≡ commits_of (log ++ r ∷ []) ++ cs) = commits_of-front (log ++ r ∷ []) rest w in
    (one ++ later.0, ap commits_of (sym a) ∙ later.1 ∙ ap (λ cs. cs ++ later.0) (commits_of-push log r (is_valid-front (log ++ r ∷ []) rest w)) ∙ append_assoc (commits_of log) one later.0)
