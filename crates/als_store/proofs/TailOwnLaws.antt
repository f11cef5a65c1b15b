-- The update that is undone first, found among those that judging keeps.
use Rattle.std.proofs.Common.{◌≡◌, ℕ, zero, suc, ◌+◌, ◌-◌, ◌<◌, ◌≤◌, Bool, true, false, cond, not, ◌&&◌, List, [], ◌∷◌, length, get_or, Option, Some, None, refl, sym, ap, ◌∙◌, inl, inr, subst, arith, le_of_suc-le-suc}
use Rattle.std.specs.Prelude.{find, slice_get}
use Rattle.std.specs.List.{AllByRecursion}
use Rattle.std.proofs.lemmas.Bool.{cases_lt}
use Rattle.std.proofs.lemmas.List.{get_or-map}
use Rattle.als_record.specs.declared.record.Record.{Record}
use Rattle.als_record.specs.declared.transaction_state.TransactionState.TheVariants.{Active, Committed, RollingBack, Prepared}
use Rattle.als_record.specs.declared.transaction_row.TransactionRow.{TransactionRow}
use Rattle.als_record.specs.Table.{state_of, row_of, table_of, is_prepared}
use Rattle.als_record.specs.Tail.{tail_of}
use Rattle.als_record.specs.Transactions.{is_committed, has_rollback, has_prepare, is_unended, is_loser, to_undo, surviving, unended}
use Rattle.als_record.proofs.Unended.{All-unended, is_prepared-state}
use Rattle.als_analysis.specs.declared.open_row.OpenRow.{OpenRow}
use Rattle.als_analysis.specs.Open.{fresh_open, rows_of}
use Rattle.als_validator.specs.Lists.{survivors_in}
use Rattle.als_validator.specs.Seen.{first_of as first_seen}
use Rattle.als_validator.proofs.StateSteps.{last-reverse}
use Rattle.als_takeover.specs.Next.{first_of, is_committed_state, is_over, undoing, NoneToUndo, IsNewest}
use Rattle.als_store.specs.TailOwn.{IsBest, IsBestAt, TellsOwed}
use Rattle.als_store.proofs.WritingLaws.{rows-counted}

-- ---- the first that passes

find-all : {X : Type 0} (p : X → Bool) (xs : List X) (d : X) → ((k : ℕ) → k < length xs → p (get_or xs k d) ≡ false) → find p xs ≡ None
find-all p [] d all = refl
find-all p (x ∷ xs) d all = rw (all 0 (omega arith)) (find-all p xs d (λ k lt. all (suc k) (omega (arith, lt))))

-- the first place that passes has what is found
find-at : {X : Type 0} (p : X → Bool) (xs : List X) (i : ℕ) (d : X) → i < length xs → ((k : ℕ) → k < i → p (get_or xs k d) ≡ false) → p (get_or xs i d) ≡ true → find p xs ≡ Some (get_or xs i d)
find-at p [] i d lt all passes = absurd (omega (arith, lt))
find-at p (x ∷ xs) zero d lt all passes = rw passes refl
find-at p (x ∷ xs) (suc i) d lt all passes = rw (all 0 (omega arith)) (find-at p xs i d (le_of_suc-le-suc lt) (λ k l. all (suc k) (omega (arith, l))) passes)

pub none-over : (rows : List OpenRow) → ((d : OpenRow) (k : ℕ) → k < length rows → is_over (get_or rows k d) ≡ false) → find is_over rows ≡ None
none-over rows none = find-all is_over rows (fresh_open 0) (none (fresh_open 0))

pub first-over : (rows : List OpenRow) (at : ℕ) → at < length rows → ((d : OpenRow) (k : ℕ) → k < at → is_over (get_or rows k d) ≡ false) → ((d : OpenRow) → is_over (get_or rows at d) ≡ true) → (at < length rows) × ((d : OpenRow) → find is_over rows ≡ Some (get_or rows at d))
first-over rows at lt before here = (lt, λ d. find-at is_over rows at d lt (before d) (here d))

-- ---- the rows

-- the row at a place is that of the transaction there
pub row-at : (log : List Record) (rows : List OpenRow) → rows_of rows ≡ table_of log → (k : ℕ) (d : OpenRow) → k < length rows → (get_or rows k d).row ≡ row_of log (get_or (unended log) k 0)
unfolding table_of
row-at log rows e k d l =
    let w : TransactionRow = row_of log 0 in
    let n : length rows ≡ length (unended log) = rows-counted log rows e in
    sym (get_or-map (λ (o : OpenRow). o.row) rows k d w l) ∙ ap (λ (rs : List TransactionRow). get_or rs k w) e ∙ get_or-map (row_of log) (unended log) k 0 w (omega (arith, l, n))

-- which is unended
pub open-at : (log : List Record) (k : ℕ) → k < length (unended log) → is_unended log (get_or (unended log) k 0) ≡ true
open-at log k l = go (unended log) k (All-unended log) l
  where
    go : (ts : List ℕ) (k : ℕ) → AllByRecursion (λ t. is_unended log t ≡ true) ts → k < length ts → is_unended log (get_or ts k 0) ≡ true
    go [] k all l = absurd (omega (arith, l))
    go (t ∷ ts) zero all l = all.0
    go (t ∷ ts) (suc k) all l = go ts k all.1 (le_of_suc-le-suc l)

-- ---- whose updates are undone

committed_state : (log : List Record) (t : ℕ) → is_committed_state (state_of log t) ≡ is_committed log t
unfolding state_of
committed_state log t = go (is_committed log t) (has_rollback log t) (has_prepare log t)
  where
    go : (a b p : Bool) → is_committed_state (cond a Committed (cond b RollingBack (cond p Prepared Active))) ≡ a
    go true b p = refl
    go false true p = refl
    go false false true = refl
    go false false false = refl

-- of an unended transaction the row's state says whether it is a loser
pub lost-is : (log : List Record) (t : ℕ) → is_unended log t ≡ true → (not (is_committed_state (state_of log t)) && not (is_prepared (state_of log t))) ≡ is_loser log t
unfolding is_loser
lost-is log t u = ap (λ b. not b && not (is_prepared (state_of log t))) (committed_state log t) ∙ ap (λ b. not (is_committed log t) && not b) (is_prepared-state log t u) ∙ rw u refl

-- ---- the newest update of one

same-first : (us : List Record) → first_seen us ≡ first_of us
same-first [] = refl
same-first (u ∷ us) = refl

-- the last of the survivors is undone first
pub last-survivor : (log : List Record) (t : ℕ) → is_unended log t ≡ true → slice_get (survivors_in log t) (length (survivors_in log t) - 1) ≡ first_of (to_undo log t)
unfolding surviving
last-survivor log t u = rw u (last-reverse (to_undo log t) ∙ same-first (to_undo log t))

-- the row of an unended transaction says whether it is a loser, and whose survivors are its own
module _ (log : List Record) (t : ℕ) (row : TransactionRow) (u : is_unended log t ≡ true) (is : row ≡ row_of log t) where
  pub lost-row : (not (is_committed_state row.state) && not (is_prepared row.state)) ≡ is_loser log t
  unfolding row_of
  lost-row = ap (λ (r : TransactionRow). not (is_committed_state r.state) && not (is_prepared r.state)) is ∙ lost-is log t u

  pub newest-row : slice_get (survivors_in log row.trans.0) (length (survivors_in log row.trans.0) - 1) ≡ first_of (to_undo log t)
  unfolding row_of
  newest-row = ap (λ (r : TransactionRow). slice_get (survivors_in log r.trans.0) (length (survivors_in log r.trans.0) - 1)) is ∙ last-survivor log t u

pub undoing-lost : (log : List Record) (t : ℕ) → is_loser log t ≡ true → undoing log t ≡ to_undo log t
undoing-lost log t e = rw e refl

pub undoing-kept : (log : List Record) (t : ℕ) → is_loser log t ≡ false → undoing log t ≡ []
undoing-kept log t e = rw e refl

-- ---- the first of a tail

pub tells-owed : (log : List Record) (found : Option Record) → found ≡ first_of (tail_of log) → TellsOwed log found
tells-owed log found e = go (tail_of log) found e refl
  where
    go : (ts : List Record) (found : Option Record) → found ≡ first_of ts → tail_of log ≡ ts → TellsOwed log found
    go [] None e q = q
    go [] (Some r) e q = absurd (cc e)
    go (t ∷ ts) None e q = absurd (cc e)
    go (t ∷ ts) (Some r) e q = let w : r ≡ t = cc e in record { rest = ts; first = q ∙ ap (λ x. x ∷ ts) (sym w) }

-- ---- the best so far

-- nothing to undo, or a first one
pub nothing-first : (us : List Record) → None ≡ first_of us → us ≡ []
nothing-first [] e = refl
nothing-first (u ∷ us) e = absurd (cc e)

pub something-first : (us : List Record) (u : Record) → Some u ≡ first_of us → (rest : List Record) × (us ≡ u ∷ rest)
something-first [] u e = absurd (cc e)
something-first (v ∷ us) u e = let q : v ≡ u = cc e in (us, ap (λ x. x ∷ us) q)

-- what is found first is the one that is known
pub same-update : (us : List Record) (u v : Record) (rest : List Record) → Some u ≡ first_of us → us ≡ v ∷ rest → u ≡ v
same-update us u v rest e f = let g : Some u ≡ Some v = e ∙ ap first_of f in cc g

pub not-nothing : (us : List Record) (v : Record) (rest : List Record) → None ≡ first_of us → us ≡ v ∷ rest → true ≡ false
not-nothing us v rest e f = let g : None ≡ Some v = e ∙ ap first_of f in absurd (cc g)

module _ (log : List Record) (ts : List ℕ) (at : ℕ) where
  -- a place below n + 1 is below n, or n
  split : (j : ℕ) → j < at + 1 → (P : Type 0) → (j < at → P) → (j ≡ at → P) → P
  split j l P below here = elim (cases_lt j at) [
    | inl m ↦ below m
    | inr m ↦ here (omega (arith, l, m))
  ]

  -- nothing of this one is undone
  pub best-same : (best : Option ℕ) → IsBest log ts at best → undoing log (get_or ts at 0) ≡ [] → IsBest log ts (at + 1) best
  best-same None b n = λ j l. split j l (undoing log (get_or ts j 0) ≡ []) (b j) (λ e. ap (λ i. undoing log (get_or ts i 0)) e ∙ n)
  best-same (Some place) b n = record {
    within = let l : place < at = b.within in omega (arith, l);
    update = b.update;
    rest = b.rest;
    newest = b.newest;
    top = λ j x more l q. split j l (x.lsn.0 ≤ b.update.lsn.0) (λ m. b.top j x more m q) (λ e. let w : [] ≡ x ∷ more = sym n ∙ ap (λ i. undoing log (get_or ts i 0)) (sym e) ∙ q in absurd (cc w));
  }

  module _ (u : Record) (rest : List Record) (q : undoing log (get_or ts at 0) ≡ u ∷ rest) where
    own : (j : ℕ) (x : Record) (more : List Record) → j ≡ at → undoing log (get_or ts j 0) ≡ x ∷ more → x.lsn.0 ≤ u.lsn.0
    own j x more e f =
        let w : x ∷ more ≡ u ∷ rest = sym f ∙ ap (λ i. undoing log (get_or ts i 0)) e ∙ q in
        let v : x ≡ u = cc w in
        let n : x.lsn.0 ≡ u.lsn.0 = ap (λ (r : Record). r.lsn.0) v in
        omega (arith, n)

    -- it is the first one
    pub best-first : IsBest log ts at None → IsBest log ts (at + 1) (Some at)
    best-first b = record {
      within = omega arith;
      update = u;
      rest = rest;
      newest = q;
      top = λ j x more l f. split j l (x.lsn.0 ≤ u.lsn.0) (λ m. let w : [] ≡ x ∷ more = sym (b j m) ∙ f in absurd (cc w)) (λ e. own j x more e f);
    }

    -- it is above the best one
    pub best-above : (place : ℕ) → (b : IsBestAt log ts at place) → b.update.lsn.0 ≤ u.lsn.0 → IsBest log ts (at + 1) (Some at)
    best-above place b h = record {
      within = omega arith;
      update = u;
      rest = rest;
      newest = q;
      top = λ j x more l f. split j l (x.lsn.0 ≤ u.lsn.0) (λ m. let t : x.lsn.0 ≤ b.update.lsn.0 = b.top j x more m f in omega (arith, t, h)) (λ e. own j x more e f);
    }

    -- it is not
    pub best-below : (place : ℕ) → (b : IsBestAt log ts at place) → u.lsn.0 ≤ b.update.lsn.0 → IsBest log ts (at + 1) (Some place)
    best-below place b h = record {
      within = let l : place < at = b.within in omega (arith, l);
      update = b.update;
      rest = b.rest;
      newest = b.newest;
      top = λ j x more l f. split j l (x.lsn.0 ≤ b.update.lsn.0) (λ m. b.top j x more m f) (λ e. let t : x.lsn.0 ≤ u.lsn.0 = own j x more e f in omega (arith, t, h));
    }

-- ---- the best of all

-- nothing is undone at all
pub none-best : (log : List Record) (rows : List OpenRow) → rows_of rows ≡ table_of log → IsBest log (unended log) (length rows) None → NoneToUndo log (unended log)
none-best log rows e b k l = let n : length rows ≡ length (unended log) = rows-counted log rows e in b k (omega (arith, l, n))

-- it is undone first
pub newest-best : (log : List Record) (rows : List OpenRow) → rows_of rows ≡ table_of log → (place : ℕ) (u : Record) → IsBest log (unended log) (length rows) (Some place) → Some u ≡ first_of (undoing log (get_or (unended log) place 0)) → IsNewest log (unended log) place u
newest-best log rows e place u b f =
    let n : length rows ≡ length (unended log) = rows-counted log rows e in
    let same : u ≡ b.update = same-update (undoing log (get_or (unended log) place 0)) u b.update b.rest f b.newest in
    record {
      within = let l : place < length rows = b.within in omega (arith, l, n);
      rest = b.rest;
      newest = b.newest ∙ ap (λ x. x ∷ b.rest) (sym same);
      top = λ j x more l q. let low : x.lsn.0 ≤ b.update.lsn.0 = b.top j x more (omega (arith, l, n)) q in subst (λ (r : Record). x.lsn.0 ≤ r.lsn.0) (sym same) low;
    }
