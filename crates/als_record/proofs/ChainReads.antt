-- Walking an undo chain by reading the log at each LSN.
use Rattle.std.proofs.Common.{◌≡◌, ℕ, ◌==◌, ◌≤◌, ◌<◌, true, false, List, [], ◌∷◌, ◌++◌, filter, find, reverse, Some, None, refl, sym, ap, ◌∙◌, inl, inr, subst, arith}
use Rattle.std.specs.List.{AllByRecursion}
use Rattle.std.specs.Option.{option_or}
use Rattle.std.proofs.lemmas.Bool.{cases_Bool, eqb-true, ne_eqb, false≢true}
use Rattle.std.proofs.lemmas.List.{reverse-append}
use Rattle.std.proofs.lemmas.List.Folds.{find-append}
use Rattle.als_record.specs.declared.record.Body.{Body}
use Rattle.als_record.specs.declared.record.Body.TheVariants.{Update, Compensation, Commit, Rollback, End, BeginCheckpoint, EndCheckpoint, Prepare}
use Rattle.als_record.specs.declared.record.Record.{Record}
use Rattle.als_record.specs.Transactions.{is_update, is_of, records_of, to_undo, is_loser}
use Rattle.als_record.specs.Tail.{losing}
use Rattle.als_record.specs.Orders.{Falling}
use Rattle.als_record.specs.UndoChain.{undone_at, goes_to, undo_chain, backwards}
use Rattle.als_record.specs.Validity.{is_valid}
use Rattle.als_record.proofs.Numbers.{eqb-refl}
use Rattle.als_record.proofs.Survivors.{All-weaken}
use Rattle.als_record.proofs.Validity.{Admitted, valid_induction}
use Rattle.als_record.proofs.Falling.{losing-first}
use Rattle.als_record.proofs.Places.{Admitted-above}
use Rattle.als_record.proofs.Chain.{Threaded, Threaded-valid, first_of_chain}

-- ---- the record at an LSN

-- a record of the log is the one found at its LSN
abbrev pub IsFound : List Record → Record → Type 0
IsFound log r = find (λ u. u.lsn.0 == r.lsn.0) log ≡ Some r

not_found : (n : ℕ) (us : List Record) → AllByRecursion (λ u. u.lsn.0 < n) us → find (λ u. u.lsn.0 == n) us ≡ None
not_found n [] a = refl
not_found n (u ∷ rest) a = let lt : u.lsn.0 < n = a.0 in let d : (u.lsn.0 == n) ≡ false = ne_eqb u.lsn.0 n (omega arith) in rw d (not_found n rest a.1)

pub All-IsFound : (log : List Record) → is_valid log ≡ true → AllByRecursion (IsFound log) log
All-IsFound log v = valid_induction (λ l. AllByRecursion (IsFound l) l) tt step log v
  where
    push : (P : Record → Type 0) (us : List Record) (r : Record) → AllByRecursion P us → P r → AllByRecursion P (us ++ r ∷ [])
    push P [] r a p = (p, tt)
    push P (u ∷ us) r a p = (a.0, push P us r a.1 p)

    step : (l : List Record) (r : Record) → is_valid l ≡ true → AllByRecursion (IsFound l) l → Admitted l r → AllByRecursion (IsFound (l ++ r ∷ [])) (l ++ r ∷ [])
    step l r w h a = push (IsFound (l ++ r ∷ [])) l r (All-weaken (IsFound l) (IsFound (l ++ r ∷ [])) (λ u e. find-append (λ x. x.lsn.0 == u.lsn.0) l (r ∷ []) ∙ ap (λ o. option_or o (find (λ x. x.lsn.0 == u.lsn.0) (r ∷ []))) e) l h)
        (find-append (λ x. x.lsn.0 == r.lsn.0) l (r ∷ []) ∙ ap (λ o. option_or o (find (λ x. x.lsn.0 == r.lsn.0) (r ∷ []))) (not_found r.lsn.0 l (Admitted-above l r w a)) ∙ rw (eqb-refl r.lsn.0) refl)

All-reverse : (P : Record → Type 0) (us : List Record) → AllByRecursion P us → AllByRecursion P (reverse us)
All-reverse P [] a = tt
All-reverse P (u ∷ rest) a = subst (AllByRecursion P) (sym (reverse-append (u ∷ []) rest)) (push (reverse rest) (All-reverse P rest a.1))
  where
    push : (us : List Record) → AllByRecursion P us → AllByRecursion P (us ++ u ∷ [])
    push [] b = (a.0, tt)
    push (w ∷ us) b = (b.0, push us b.1)

-- ---- a step of the chain

-- the chain begins at one of the records, and goes on from it
begins : (P : Record → Type 0) (n : ℕ) (rs : List Record) (u : Record) (us : List Record) → Falling rs → AllByRecursion (λ r. goes_to r r.body < r.lsn.0) rs → AllByRecursion P rs → undo_chain n rs ≡ u ∷ us
    → (r : Record) × P r × (r.lsn.0 ≡ n) × (goes_to r r.body < r.lsn.0) × (undo_chain n rs ≡ undone_at r r.body ++ undo_chain (goes_to r r.body) rs)
unfolding undo_chain
begins P n [] u us f g a e = absurd (cc e)
begins P n (x ∷ rest) u us f g a e = elim (cases_Bool (x.lsn.0 == n)) [
  | inl y ↦
      let up : goes_to x x.body < x.lsn.0 = g.0 in
      let d : (x.lsn.0 == goes_to x x.body) ≡ false = ne_eqb x.lsn.0 (goes_to x x.body) (omega arith) in
      (x, a.0, eqb-true x.lsn.0 n y, g.0, rw (y, d) refl)
  | inr y ↦ later y (begins (λ r. (r.lsn.0 < x.lsn.0) × P r) n rest u us f.1 g.1 (both rest f.0 a.1) (rw y at e))
]
  where
    both : (rs : List Record) → AllByRecursion (λ r. r.lsn.0 < x.lsn.0) rs → AllByRecursion P rs → AllByRecursion (λ r. (r.lsn.0 < x.lsn.0) × P r) rs
    both [] b c = tt
    both (r ∷ rs) b c = ((b.0, c.0), both rs b.1 c.1)

    later : (x.lsn.0 == n) ≡ false → (r : Record) × ((r.lsn.0 < x.lsn.0) × P r) × (r.lsn.0 ≡ n) × (goes_to r r.body < r.lsn.0) × (undo_chain n rest ≡ undone_at r r.body ++ undo_chain (goes_to r r.body) rest)
        → (r : Record) × P r × (r.lsn.0 ≡ n) × (goes_to r r.body < r.lsn.0) × (undo_chain n (x ∷ rest) ≡ undone_at r r.body ++ undo_chain (goes_to r r.body) (x ∷ rest))
    later y h =
        let r : Record = h.0 in
        let low : r.lsn.0 < x.lsn.0 = h.1.0 in
        let up : goes_to r r.body < r.lsn.0 = h.3 in
        let d : (x.lsn.0 == goes_to r r.body) ≡ false = ne_eqb x.lsn.0 (goes_to r r.body) (omega arith) in
        (r, h.1.1, h.2, h.3, rw (y, d) h.4)

-- In a valid log, where a transaction's chain from an LSN meets an update, the log has a record there; it is the
-- transaction's, and the chain is what that record is and the chain from where it goes to, further down.
pub record ChainStep (log : List Record) (t n : ℕ) (r : Record) : Type 0 where
  pub found : find (λ u. u.lsn.0 == n) log ≡ Some r
  pub place : r.lsn.0 ≡ n
  pub own : is_of t r ≡ true
  pub down : goes_to r r.body < n
  pub chain : undo_chain n (backwards log t) ≡ undone_at r r.body ++ undo_chain (goes_to r r.body) (backwards log t)

pub undo_chain-step : (log : List Record) (t n : ℕ) (u : Record) (us : List Record) → is_valid log ≡ true → undo_chain n (backwards log t) ≡ u ∷ us → (r : Record) × ChainStep log t n r
unfolding records_of
undo_chain-step log t n u us v e =
    let h : Threaded log t = Threaded-valid log v t in
    let b : (r : Record) × ((is_of t r ≡ true) × IsFound log r) × (r.lsn.0 ≡ n) × (goes_to r r.body < r.lsn.0) × (undo_chain n (backwards log t) ≡ undone_at r r.body ++ undo_chain (goes_to r r.body) (backwards log t)) =
    begins (λ r. (is_of t r ≡ true) × IsFound log r) n (backwards log t) u us h.falling h.onward (All-reverse (λ r. (is_of t r ≡ true) × IsFound log r) (filter (is_of t) log) (own log (All-IsFound log v))) e in
    let r : Record = b.0 in
    let q : r.lsn.0 ≡ n = b.2 in
    let up : goes_to r r.body < r.lsn.0 = b.3 in
    (r, record { found = ap (λ m. find (λ u. u.lsn.0 == m) log) (sym q) ∙ b.1.1; place = q; own = b.1.0; down = omega arith; chain = b.4 })
  where
    own : (rs : List Record) → AllByRecursion (IsFound log) rs → AllByRecursion (λ r. (is_of t r ≡ true) × IsFound log r) (filter (is_of t) rs)
    own [] a = tt
    own (r ∷ rest) a = elim (cases_Bool (is_of t r)) [
      | inl y ↦ rw y ((y, a.0), own rest a.1)
      | inr y ↦ rw y (own rest a.1)
    ]

-- the first update of a chain stands at its beginning or below
first_low : (n : ℕ) (rs : List Record) (u : Record) (us : List Record) → Falling rs → undo_chain n rs ≡ u ∷ us → u.lsn.0 ≤ n
unfolding undo_chain
first_low n [] u us f e = absurd (cc e)
first_low n (x ∷ rest) u us f e = elim (cases_Bool (x.lsn.0 == n)) [
  | inr y ↦ first_low n rest u us f.1 (rw y at e)
  | inl y ↦
      let q : x.lsn.0 ≡ n = eqb-true x.lsn.0 n y in
      first_of_chain (λ v. v.lsn.0 ≤ n) n (x ∷ rest) u us (omega arith, All-weaken (λ v. v.lsn.0 < x.lsn.0) (λ v. v.lsn.0 ≤ n) (λ v h. omega arith) rest f.0) e
]

pub undo_chain-first : (log : List Record) (t n : ℕ) (u : Record) (us : List Record) → is_valid log ≡ true → undo_chain n (backwards log t) ≡ u ∷ us → u.lsn.0 ≤ n
undo_chain-first log t n u us v e = first_low n (backwards log t) u us (Threaded-valid log v t).falling e

-- a chain from an update begins with it, and goes on at its PrevLSN
pub undo_chain-update : (log : List Record) (t n : ℕ) (r : Record) → ChainStep log t n r → is_update r.body ≡ true → undo_chain n (backwards log t) ≡ r ∷ undo_chain r.prev.0 (backwards log t)
undo_chain-update log t n r c e = c.chain ∙ go r.body e
  where
    go : (b : Body) → is_update b ≡ true → undone_at r b ++ undo_chain (goes_to r b) (backwards log t) ≡ r ∷ undo_chain r.prev.0 (backwards log t)
    go (Update key before after) e = refl
    go (Compensation undo_next key after) e = absurd (false≢true e)
    go Commit e = absurd (false≢true e)
    go Rollback e = absurd (false≢true e)
    go End e = absurd (false≢true e)
    go BeginCheckpoint e = absurd (false≢true e)
    go (EndCheckpoint transactions pages) e = absurd (false≢true e)
    go Prepare e = absurd (false≢true e)

-- a chain from another record is the chain from where it goes to
pub undo_chain-skip : (log : List Record) (t n : ℕ) (r : Record) → ChainStep log t n r → is_update r.body ≡ false → undo_chain n (backwards log t) ≡ undo_chain (goes_to r r.body) (backwards log t)
undo_chain-skip log t n r c e = c.chain ∙ go r.body e
  where
    go : (b : Body) → is_update b ≡ false → undone_at r b ++ undo_chain (goes_to r b) (backwards log t) ≡ undo_chain (goes_to r b) (backwards log t)
    go (Update key before after) e = absurd (false≢true (sym e))
    go (Compensation undo_next key after) e = refl
    go Commit e = refl
    go Rollback e = refl
    go End e = refl
    go BeginCheckpoint e = refl
    go (EndCheckpoint transactions pages) e = refl
    go Prepare e = refl

-- ---- one step of a takeover's sweep

-- The greatest of the losers' chains begins with the first update to undo, where the record there is an update.
pub losing-greatest_chain : (log : List Record) → is_valid log ≡ true → (from : ℕ → ℕ) → ((s : ℕ) → is_loser log s ≡ true → undo_chain (from s) (backwards log s) ≡ to_undo log s)
    → (t : ℕ) → is_loser log t ≡ true → ((s : ℕ) → is_loser log s ≡ true → from s ≤ from t) → (r : Record) → ChainStep log t (from t) r → is_update r.body ≡ true
    → (us : List Record) × (losing log ≡ r ∷ us)
losing-greatest_chain log v from chains t l top r c u =
    losing-first log v t l r (undo_chain r.prev.0 (backwards log t)) (sym (chains t l) ∙ undo_chain-update log t (from t) r c u)
    (λ s m x more e.
    let a : x.lsn.0 ≤ from s = undo_chain-first log s (from s) x more v (chains s m ∙ e) in
    let b : from s ≤ from t = top s m in
    let p : r.lsn.0 ≡ from t = c.place in
    omega arith)
