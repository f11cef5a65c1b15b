-- The tail behind a front of a transaction: its rollback behind updates, its end behind the commit.
use Rattle.std.proofs.Common.{◌≡◌, ℕ, ◌==◌, Bool, true, false, cond, not, ◌||◌, List, [], ◌∷◌, ◌++◌, map, take, filter, reverse, refl, sym, ap, ◌∙◌, inl, inr, subst, append_assoc, append-nil}
use Rattle.std.specs.List.{list_any, AllByRecursion}
use Rattle.std.proofs.lemmas.Bool.{cases_Bool, eqb-true, false≢true}
use Rattle.std.proofs.lemmas.List.{reverse-append}
use Rattle.std.proofs.lemmas.List.Elements.{filter-append}
use Rattle.als_record.specs.declared.record.Record.{Record}
use Rattle.als_record.specs.declared.trans_id.TransId.{TransId}
use Rattle.als_record.specs.LogText.{end_of}
use Rattle.als_record.specs.Transactions.{is_update, is_some_left, is_among, to_undo, has_begun, is_committed, is_unended, is_in_doubt, is_loser, last_lsn, unended, all_surviving}
use Rattle.als_record.specs.Validity.{prev_of, is_valid}
use Rattle.als_record.specs.Commits.{Write}
use Rattle.als_record.specs.Tail.{Ends as EndsOne, Undoes as UndoesOne, is_finished, ends, undoes, losing, ending, tail_steps, undone, record_for as tail_record, numbered, tail_of}
use Rattle.als_record.proofs.Numbers.{eqb-refl, filter-except}
use Rattle.als_record.proofs.Records.{loser_parts, is_loser-from, is_unended-own, has_ended-unended}
use Rattle.als_record.proofs.Survivors.{is_by, All-is_update, All-weaken, all_surviving-by}
use Rattle.als_record.proofs.Unended.{is_among-ending, All-unended}
use Rattle.als_record.proofs.TailSteps.{is_finished-in_doubt, undone-is_compensation, compensation-is_transactional, compensation-is_end}
use Rattle.als_record.proofs.Falling.{losing-none, All-filter}
use Rattle.als_record.proofs.TailFirst.{ending-tail_of, tail_of-none}
use Rattle.als_writing.specs.Writing.{Writes, Undoes, Commits, Ends, record_for, moved, updates, transaction, rollback, rolled_back, MayWrite}
use Rattle.als_writing.proofs.Moved.{take-updates}
use Rattle.als_writing.proofs.Rolling.{MayWrite-front}
use Rattle.als_writing.proofs.Updates.{IsNew-number, Writing-updates}
use Rattle.als_writing.proofs.Committing.{All-others, All-own, Committed-transaction}
use Rattle.als_writing.proofs.Beside.{Beside, Beside-moved}
use Rattle.als_writing.proofs.Ahead.{out, committed_one, unended_committed, beside_committed, beside_updated, unended_updated, unended_one, undoubted_one, undo_one}

-- ---- lists

-- the steps that undo the updates of one transaction
undoes-one : (t : ℕ) (u : Record) (us : List Record) → AllByRecursion (λ u. (u.trans.0 == t) ≡ true) (u ∷ us) → undoes (u ∷ us) ≡ map UndoesOne (u ∷ us) ++ EndsOne t ∷ []
unfolding undoes
undoes-one t u [] a = ap (λ x. UndoesOne u ∷ EndsOne x ∷ []) (eqb-true u.trans.0 t a.0)
undoes-one t u (v ∷ us) a =
    ap (λ b. UndoesOne u ∷ cond b (undoes (v ∷ us)) (EndsOne u.trans.0 ∷ undoes (v ∷ us))) among
    ∙ ap (λ steps. UndoesOne u ∷ steps) (undoes-one t v us a.1)
  where
    among : list_any (λ w. w.trans.0 == u.trans.0) (v ∷ us) ≡ true
    among = ap (λ b. b || list_any (λ w. w.trans.0 == u.trans.0) us) (ap (λ x. v.trans.0 == x) (eqb-true u.trans.0 t a.0) ∙ a.1.0)

-- ---- their records

-- the records of these steps are those of the moves, as long as the transaction is unended
module _ (t : ℕ) where
  own_trans : (u : Record) → (u.trans.0 == t) ≡ true → u.trans ≡ (let x : TransId = record { 0 = t } in x)
  own_trans u e = ap (λ n. let x : TransId = record { 0 = n } in x) (eqb-true u.trans.0 t e)

  prev-is : (log : List Record) → is_unended log t ≡ true → prev_of log t ≡ last_lsn log t
  unfolding prev_of
  prev-is log u = rw u refl

  undo-is : (log : List Record) (u : Record) → is_unended log t ≡ true → (u.trans.0 == t) ≡ true → tail_record log (UndoesOne u) ≡ record_for log t (Undoes u)
  undo-is log u un e =
      let q : u.trans.0 ≡ t = eqb-true u.trans.0 t e in
      ap (λ x. let r : Record = record { lsn = record { 0 = end_of log }; prev = record { 0 = last_lsn log x }; trans = record { 0 = x }; body = undone u.prev u.body } in r) q
      ∙ ap (λ p. let r : Record = record { lsn = record { 0 = end_of log }; prev = record { 0 = p }; trans = record { 0 = t }; body = undone u.prev u.body } in r) (sym (prev-is log un))

  end-is : (log : List Record) → is_unended log t ≡ true → tail_record log (EndsOne t) ≡ record_for log t Ends
  end-is log un = ap (λ p. let r : Record = record { lsn = record { 0 = end_of log }; prev = record { 0 = p }; trans = record { 0 = t }; body = (record_for log t Ends).body } in r) (sym (prev-is log un))

  still : (log : List Record) (u : Record) → is_update u.body ≡ true → is_unended log t ≡ true → is_unended (log ++ record_for log t (Undoes u) ∷ []) t ≡ true
  still log u up un =
      let c = undone-is_compensation u.prev u.body up in
      is_unended-own log (record_for log t (Undoes u)) t (rw (compensation-is_transactional (undone u.prev u.body) c) (eqb-refl t))
      ∙ rw (has_ended-unended log t un, compensation-is_end (undone u.prev u.body) c) refl

  pub numbered-is : (us : List Record) (log : List Record) → AllByRecursion (λ u. (u.trans.0 == t) ≡ true) us → AllByRecursion (λ u. is_update u.body ≡ true) us → is_unended log t ≡ true → numbered log (map UndoesOne us ++ EndsOne t ∷ []) ≡ moved log t (map Undoes us ++ Ends ∷ [])
  unfolding numbered moved
  numbered-is [] log a b un = ap (λ r. r ∷ []) (end-is log un)
  numbered-is (u ∷ us) log a b un =
      ap (λ r. r ∷ numbered (log ++ r ∷ []) (map UndoesOne us ++ EndsOne t ∷ [])) (undo-is log u un a.0)
      ∙ ap (λ rs. record_for log t (Undoes u) ∷ rs) (numbered-is us (log ++ record_for log t (Undoes u) ∷ []) a.1 b.1 (still log u b.0 un))

some-push : (us : List Record) (r : Record) → is_some_left (us ++ r ∷ []) ≡ true
some-push [] r = refl
some-push (u ∷ us) r = refl

undoes-some : (t : ℕ) (us : List Record) → is_some_left us ≡ true → AllByRecursion (λ u. (u.trans.0 == t) ≡ true) us → undoes us ≡ map UndoesOne us ++ EndsOne t ∷ []
undoes-some t [] s a = absurd (false≢true s)
undoes-some t (u ∷ us) s a = undoes-one t u us a

-- all of these pass a test, or none does
filter-all : (p : Record → Bool) (us : List Record) → AllByRecursion (λ u. p u ≡ true) us → filter p us ≡ us
filter-all p [] a = refl
filter-all p (u ∷ us) a = rw a.0 (ap (λ rest. u ∷ rest) (filter-all p us a.1))

filter-alike : (p q : Record → Bool) (us : List Record) → AllByRecursion (λ u. p u ≡ q u) us → filter p us ≡ filter q us
filter-alike p q [] a = refl
filter-alike p q (u ∷ us) a = rw a.0 (ap (λ rest. cond (q u) (u ∷ rest) rest) (filter-alike p q us a.1))

-- ---- a log of which nothing is owed

module _ (log : List Record) (tidy : tail_of log ≡ []) where
  pub nobody : (x : ℕ) → is_unended log x ≡ true → is_in_doubt log x ≡ false → ⊥
  nobody x u d = false≢true (ap (λ xs. is_among xs x) (sym (ending-tail_of log tidy)) ∙ is_among-ending log x ∙ rw (u, d) refl)

  unfinished : filter (is_finished log) (unended log) ≡ []
  unfinished = go (unended log) (All-unended log)
    where
      go : (ts : List ℕ) → AllByRecursion (λ x. is_unended log x ≡ true) ts → filter (is_finished log) ts ≡ []
      go [] a = refl
      go (x ∷ ts) a = elim (cases_Bool (is_finished log x)) [
        | inl f ↦ absurd (nobody x a.0 (is_finished-in_doubt log x f))
        | inr f ↦ rw f (go ts a.1)
      ]

  nothing_losing : losing log ≡ []
  nothing_losing = losing-none log (λ x l. absurd (nobody x (loser_parts log x l).0 (loser_parts log x l).2))

  module _ (pages : ℕ) (t : ℕ) (v : is_valid log ≡ true) where
    -- ---- behind updates

    module _ (w : Write) (rest : List Write) (m : MayWrite pages log t (w ∷ rest)) where
      abbrev us : List Record
      us = updates log t (w ∷ rest)

      abbrev updated : List Record
      updated = log ++ updates log t (w ∷ rest)

      abbrev begun : has_begun log t ≡ false
      begun = (IsNew-number pages log t (w ∷ rest) v m).begun

      -- the others that are unended are as unfinished as before
      others_unfinished : filter (is_finished updated) (unended log) ≡ []
      others_unfinished = filter-except (is_finished updated) (is_finished log) t (beside_updated pages log t v w rest m).finished (unended log) (out pages log t v w rest m) ∙ unfinished

      some : is_some_left (reverse us) ≡ true
      unfolding updates moved
      some = ap is_some_left (reverse-append (record_for log t (Writes w) ∷ []) (moved (log ++ record_for log t (Writes w) ∷ []) t (map Writes rest))) ∙ some-push (reverse (moved (log ++ record_for log t (Writes w) ∷ []) t (map Writes rest))) (record_for log t (Writes w))

      uncommitted : is_committed updated t ≡ false
      uncommitted = (Writing-updates pages log t (w ∷ rest) v m).active.committed

      unfinished_one : is_finished updated t ≡ false
      unfolding is_finished
      unfinished_one = rw (uncommitted, undoubted_one pages log t v w rest m, undo_one pages log t v w rest m, some) refl

      loser_one : is_loser updated t ≡ true
      loser_one = is_loser-from updated t (unended_one pages log t v w rest m) uncommitted (undoubted_one pages log t v w rest m)

      finished_updated : filter (is_finished updated) (unended updated) ≡ []
      finished_updated =
          ap (filter (is_finished updated)) (unended_updated pages log t v w rest m)
          ∙ filter-append (is_finished updated) (unended log) (t ∷ [])
          ∙ ap (λ xs. xs ++ cond (is_finished updated t) (t ∷ []) []) others_unfinished
          ∙ ap (λ b. cond b (t ∷ []) []) unfinished_one

      own_updates : AllByRecursion (λ u. (u.trans.0 == t) ≡ true) (reverse us)
      own_updates = subst (AllByRecursion (λ u. (u.trans.0 == t) ≡ true)) (undo_one pages log t v w rest m) (All-own updated t)

      all_updates : AllByRecursion (λ u. is_update u.body ≡ true) (reverse us)
      all_updates = subst (AllByRecursion (λ u. is_update u.body ≡ true)) (all_surviving-by t updated ∙ undo_one pages log t v w rest m) (All-filter (λ u. is_update u.body ≡ true) (is_by t) (all_surviving updated) (All-is_update updated))

      losing_updated : losing updated ≡ reverse us
      unfolding losing
      losing_updated =
          ap (filter (λ u. is_loser updated u.trans.0)) ((Writing-updates pages log t (w ∷ rest) v m).survivors ∙ ap (λ xs. xs ++ all_surviving log) (undo_one pages log t v w rest m))
          ∙ filter-append (λ (u : Record). is_loser updated u.trans.0) (reverse us) (all_surviving log)
          ∙ ap (λ xs. xs ++ filter (λ (u : Record). is_loser updated u.trans.0) (all_surviving log)) (filter-all (λ u. is_loser updated u.trans.0) (reverse us) (All-weaken (λ u. (u.trans.0 == t) ≡ true) (λ u. is_loser updated u.trans.0 ≡ true) (λ u e. ap (is_loser updated) (eqb-true u.trans.0 t e) ∙ loser_one) (reverse us) own_updates))
          ∙ ap (λ xs. reverse us ++ xs) (filter-alike (λ u. is_loser updated u.trans.0) (λ u. is_loser log u.trans.0) (all_surviving log) (All-weaken (λ u. (u.trans.0 == t) ≡ false) (λ u. is_loser updated u.trans.0 ≡ is_loser log u.trans.0) (λ u e. (beside_updated pages log t v w rest m).loser u.trans.0 e) (all_surviving log) (All-others log t begun)) ∙ nothing_losing)
          ∙ append-nil (reverse us)

      pub tail_of-updated : tail_of updated ≡ rollback updated t us
      unfolding tail_of tail_steps rollback
      tail_of-updated =
          ap (λ xs. numbered updated (ends xs ++ undoes (losing updated))) finished_updated
          ∙ ap (λ xs. numbered updated (undoes xs)) losing_updated
          ∙ ap (numbered updated) (undoes-some t (reverse us) some own_updates)
          ∙ numbered-is t (reverse us) updated own_updates all_updates (unended_one pages log t v w rest m)

      -- ---- behind the commit

      abbrev committed : List Record
      committed = (log ++ updates log t (w ∷ rest)) ++ record_for (log ++ updates log t (w ∷ rest)) t Commits ∷ []

      unended_committed_one : is_unended committed t ≡ true
      unended_committed_one = is_unended-own updated (record_for updated t Commits) t (eqb-refl t) ∙ rw (has_ended-unended updated t (unended_one pages log t v w rest m)) refl

      finished_one : is_finished committed t ≡ true
      unfolding is_finished
      finished_one = rw (committed_one pages log t v w rest m) refl

      finished_committed : filter (is_finished committed) (unended committed) ≡ t ∷ []
      finished_committed =
          ap (filter (is_finished committed)) (unended_committed pages log t v w rest m)
          ∙ filter-append (is_finished committed) (unended log) (t ∷ [])
          ∙ ap (λ xs. xs ++ cond (is_finished committed t) (t ∷ []) []) (filter-except (is_finished committed) (is_finished log) t (beside_committed pages log t v w rest m).finished (unended log) (out pages log t v w rest m) ∙ unfinished)
          ∙ ap (λ b. cond b (t ∷ []) []) finished_one

      losing_committed : losing committed ≡ []
      losing_committed = losing-none committed none
        where
          none : (x : ℕ) → is_loser committed x ≡ true → to_undo committed x ≡ []
          none x l = elim (cases_Bool (x == t)) [
            | inl e ↦ absurd (false≢true (sym (loser_parts committed x l).1 ∙ ap (is_committed committed) (eqb-true x t e) ∙ committed_one pages log t v w rest m))
            | inr e ↦
                let h : is_loser log x ≡ true = sym ((beside_committed pages log t v w rest m).loser x e) ∙ l in
                absurd (nobody x (loser_parts log x h).0 (loser_parts log x h).2)
          ]

      pub tail_of-committed : tail_of committed ≡ record_for committed t Ends ∷ []
      unfolding tail_of tail_steps numbered undoes
      tail_of-committed =
          ap (λ xs. numbered committed (ends xs ++ undoes (losing committed))) finished_committed
          ∙ ap (λ xs. numbered committed (EndsOne t ∷ undoes xs)) losing_committed
          ∙ ap (λ r. r ∷ []) (end-is t committed unended_committed_one)

    -- ---- behind the whole

    module _ (w : Write) (rest : List Write) (m : MayWrite pages log t (w ∷ rest)) where
      pub tail_of-whole : tail_of (log ++ transaction log t (w ∷ rest)) ≡ []
      unfolding transaction ending
      tail_of-whole =
          let whole : List Record = log ++ transaction log t (w ∷ rest) in
          let b : Beside t log whole = Beside-moved t (map Writes (w ∷ rest) ++ Commits ∷ Ends ∷ []) log in
          tail_of-none whole
          (ap (filter (λ x. not (is_in_doubt whole x))) (Committed-transaction pages log t (w ∷ rest) v m).unended
          ∙ filter-except (λ x. not (is_in_doubt whole x)) (λ x. not (is_in_doubt log x)) t (λ x e. ap not (b.in_doubt x e)) (unended log) (out pages log t v w rest m)
          ∙ ending-tail_of log tidy)

-- ---- any front of the updates

module _ (pages : ℕ) (log : List Record) (t : ℕ) (writes : List Write) (v : is_valid log ≡ true) (m : MayWrite pages log t writes) (tidy : tail_of log ≡ []) where
  tail_of-some : (k : ℕ) (ws : List Write) → MayWrite pages log t ws → is_some_left (updates log t ws) ≡ true → tail_of (log ++ updates log t ws) ≡ rollback (log ++ updates log t ws) t (updates log t ws)
  unfolding updates moved
  tail_of-some k [] n s = absurd (false≢true s)
  tail_of-some k (w ∷ rest) n s = tail_of-updated log tidy pages t v w rest n

  -- the tail of it is its rollback
  pub tail_of-front : (k : ℕ) → is_some_left (take k (updates log t writes)) ≡ true → tail_of (log ++ take k (updates log t writes)) ≡ rollback (log ++ take k (updates log t writes)) t (take k (updates log t writes))
  tail_of-front k s =
      let e : take k (updates log t writes) ≡ updates log t (take k writes) = take-updates k log t writes in
      subst (λ us. tail_of (log ++ us) ≡ rollback (log ++ us) t us) (sym e) (tail_of-some k (take k writes) (MayWrite-front pages log t writes k m) (ap is_some_left (sym e) ∙ s))

  -- whether or not it has any, the tail leaves the commits, the keys and who is unended as they were
  pub tail_of-any : (A : Type 0) (f : List Record → A) (k : ℕ) → f (log ++ rolled_back log t (take k (updates log t writes))) ≡ f log → f ((log ++ take k (updates log t writes)) ++ tail_of (log ++ take k (updates log t writes))) ≡ f log
  tail_of-any A f k same = go (take k (updates log t writes)) refl
    where
      go : (us : List Record) → take k (updates log t writes) ≡ us → f ((log ++ take k (updates log t writes)) ++ tail_of (log ++ take k (updates log t writes))) ≡ f log
      go [] e = ap (λ us. f ((log ++ us) ++ tail_of (log ++ us))) e ∙ ap (λ l. f (l ++ tail_of l)) (append-nil log) ∙ ap (λ rs. f (log ++ rs)) tidy ∙ ap f (append-nil log)
      go (u ∷ more) e =
          ap (λ rs. f ((log ++ take k (updates log t writes)) ++ rs)) (tail_of-front k (ap is_some_left e))
          ∙ ap f (append_assoc log (take k (updates log t writes)) (rollback (log ++ take k (updates log t writes)) t (take k (updates log t writes))))
          ∙ same
