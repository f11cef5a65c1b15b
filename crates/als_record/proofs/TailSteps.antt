-- The tail of a log, one record on: what is left to append after its first record.
use Rattle.std.proofs.Common.{◌≡◌, ℕ, zero, suc, ◌==◌, Bool, true, false, cond, not, ◌&&◌, ◌||◌, List, [], ◌∷◌, ◌++◌, filter, drop, take, refl, sym, ap, ◌∙◌, inl, inr, append_assoc, append-nil, subst}
use Rattle.std.specs.List.{list_any, AllByRecursion}
use Rattle.std.proofs.lemmas.Bool.{cases_Bool, eqb-true, eq-eqb, false≢true, and_parts, not-true}
use Rattle.std.proofs.lemmas.List.Elements.{filter_agree}
use Rattle.als_record.specs.declared.lsn.Lsn.{Lsn}
use Rattle.als_record.specs.declared.key.Key.{Key}
use Rattle.als_record.specs.declared.record.Body.{Body}
use Rattle.als_record.specs.declared.record.Body.TheVariants.{Update, Compensation, Commit, Rollback, End, BeginCheckpoint, EndCheckpoint, Prepare}
use Rattle.als_record.specs.declared.record.Record.{Record}
use Rattle.als_record.specs.Transactions.{is_transactional, is_update, is_compensation, is_commit, is_rollback, is_end, is_prepare, is_of, is_among, to_undo_after, to_undo, is_some_left, is_committed, has_ended, is_unended, is_in_doubt, is_loser, unended, in_doubt, without_newest, survivors_after, all_surviving, transactions}
use Rattle.als_record.specs.Spelling.{Image}
use Rattle.als_record.specs.Tail.{TailStep, Ends, Undoes, is_finished, ends, undoes, losing, ending, tail_steps, undone, record_for, numbered, tail_of}
use Rattle.als_record.proofs.Records.{to_undo-own, to_undo-other, is_committed-own, is_committed-other, is_unended-own, is_loser-other, is_loser-from, loser_parts, is_in_doubt-other, is_in_doubt-stays, is_in_doubt-committed, is_in_doubt-over, has_begun-unended, has_ended-unended}
use Rattle.als_record.proofs.Numbers.{without, eqb-refl, eqb-sym, is_among-filter, Apart-filter, filter-except, without-absent}
use Rattle.als_record.specs.Orders.{Apart}
use Rattle.als_record.proofs.Survivors.{is_by, all_surviving-push, all_surviving-by, All-is_update}
use Rattle.als_record.proofs.Unended.{transactions-same, unended-more, unended-end, Apart-unended, is_among-unended}

-- ---- lists

-- tests that agree but on one transaction's records keep the same of a list without any of these
pub filter-absent : (p q : Record → Bool) (t : ℕ) → ((u : Record) → is_by t u ≡ false → p u ≡ q u) → (us : List Record) → filter (is_by t) us ≡ [] → filter p us ≡ filter q us
filter-absent p q t agree [] e = refl
filter-absent p q t agree (u ∷ rest) e = elim (cases_Bool (u.trans.0 == t)) [
  | inl y ↦ let f : u ∷ filter (is_by t) rest ≡ [] = (rw y at e) in absurd (cc f)
  | inr y ↦ let f : filter (is_by t) rest ≡ [] = (rw y at e) in rw (agree u y) (ap (λ us. cond (q u) (u ∷ us) us) (filter-absent p q t agree rest f))
]

-- the newest update that a test of transactions keeps, taken away
pub filter-without_newest : (p : ℕ → Bool) (t : ℕ) → p t ≡ true → (us : List Record) (u : Record) (rest : List Record) → filter (λ v. p v.trans.0) us ≡ u ∷ rest → u.trans.0 ≡ t → filter (λ v. p v.trans.0) (without_newest t us) ≡ rest
filter-without_newest p t y [] u rest e q = absurd (cc e)
filter-without_newest p t y (v ∷ us) u rest e q = elim (cases_Bool (v.trans.0 == t)) [
  | inl w ↦ let z : p v.trans.0 ≡ true = ap p (eqb-true v.trans.0 t w) ∙ y in
      let f : v ∷ filter (λ v. p v.trans.0) us ≡ u ∷ rest = (rw z at e) in simp w (cc f)
  | inr w ↦ elim (cases_Bool (p v.trans.0)) [
    | inl z ↦ let f : v ∷ filter (λ v. p v.trans.0) us ≡ u ∷ rest = (rw z at e) in
        let g : v ≡ u = cc f in absurd (false≢true (sym w ∙ eq-eqb v.trans.0 t (ap (λ v. v.trans.0) g ∙ q)))
    | inr z ↦ let f : filter (λ v. p v.trans.0) us ≡ u ∷ rest = (rw z at e) in simp (w, z) (filter-without_newest p t y us u rest f q)
  ]
]

-- the records of one transaction among those that a test of transactions keeps
pub filter-by : (p : ℕ → Bool) (t : ℕ) → p t ≡ true → (us : List Record) → filter (is_by t) (filter (λ v. p v.trans.0) us) ≡ filter (is_by t) us
filter-by p t y [] = refl
filter-by p t y (v ∷ us) = elim (cases_Bool (v.trans.0 == t)) [
  | inl w ↦ let z : p v.trans.0 ≡ true = ap p (eqb-true v.trans.0 t w) ∙ y in simp (z, w) (ap (λ us. v ∷ us) (filter-by p t y us))
  | inr w ↦ elim (cases_Bool (p v.trans.0)) [
    | inl z ↦ simp (z, w) (filter-by p t y us)
    | inr z ↦ simp (z, w) (filter-by p t y us)
  ]
]

-- and of one that the test leaves out there is none
pub filter-none : (p : ℕ → Bool) (t : ℕ) → p t ≡ false → (us : List Record) → filter (is_by t) (filter (λ v. p v.trans.0) us) ≡ []
filter-none p t n [] = refl
filter-none p t n (v ∷ us) = elim (cases_Bool (p v.trans.0)) [
  | inl z ↦ elim (cases_Bool (v.trans.0 == t)) [
    | inl w ↦ absurd (false≢true (sym n ∙ ap p (sym (eqb-true v.trans.0 t w)) ∙ z))
    | inr w ↦ simp (z, w) (filter-none p t n us)
  ]
  | inr z ↦ simp z (filter-none p t n us)
]

-- a test of transactions that leaves one out keeps the same of a list without its newest update
pub filter-passes_newest : (p : ℕ → Bool) (t : ℕ) → p t ≡ false → (us : List Record) → filter (λ v. p v.trans.0) (without_newest t us) ≡ filter (λ v. p v.trans.0) us
filter-passes_newest p t n [] = refl
filter-passes_newest p t n (v ∷ us) = elim (cases_Bool (v.trans.0 == t)) [
  | inl w ↦ let z : p v.trans.0 ≡ false = ap p (eqb-true v.trans.0 t w) ∙ n in simp (w, z)
  | inr w ↦ elim (cases_Bool (p v.trans.0)) [
    | inl z ↦ simp (w, z) (ap (λ xs. v ∷ xs) (filter-passes_newest p t n us))
    | inr z ↦ simp (w, z) (filter-passes_newest p t n us)
  ]
]

-- the surviving updates of the transactions in doubt
abbrev pub doubting : List Record → List Record
doubting log = filter (λ u. is_in_doubt log u.trans.0) (all_surviving log)

pub is_some_left-filter : (p : Record → Bool) (us : List Record) → is_some_left (filter p us) ≡ list_any p us
is_some_left-filter p [] = refl
is_some_left-filter p (u ∷ rest) = elim (cases_Bool (p u)) [
  | inl e ↦ simp e
  | inr e ↦ simp e (is_some_left-filter p rest)
]

-- a test that nothing passed, and that one number passes now
filter-one : (p q : ℕ → Bool) (t : ℕ) → ((x : ℕ) → (x == t) ≡ false → p x ≡ q x) → p t ≡ true → (xs : List ℕ) → Apart xs → is_among xs t ≡ true → filter q xs ≡ [] → filter p xs ≡ t ∷ []
filter-one p q t agree y [] a m e = absurd (false≢true m)
filter-one p q t agree y (x ∷ rest) a m e = elim (cases_Bool (q x)) [
  | inl z ↦ let f : x ∷ filter q rest ≡ [] = (rw z at e) in absurd (cc f)
  | inr z ↦ let f : filter q rest ≡ [] = (rw z at e) in elim (cases_Bool (x == t)) [
    | inl w ↦ let g : x ≡ t = eqb-true x t w in
        let none : is_among rest t ≡ false = ap (is_among rest) (sym g) ∙ a.0 in
        let z2 : p x ≡ true = ap p g ∙ y in
        simp z2 (ap (λ ys. x ∷ ys) (filter-except p q t agree rest none ∙ f) ∙ ap (λ n. n ∷ []) g)
    | inr w ↦ let z2 : p x ≡ false = agree x w ∙ z in let n : is_among rest t ≡ true = (rw w at m) in simp z2 (filter-one p q t agree y rest a.1 n f)
  ]
]

without-filter : (t : ℕ) (p : ℕ → Bool) (xs : List ℕ) → filter p (without t xs) ≡ without t (filter p xs)
without-filter t p [] = refl
without-filter t p (x ∷ rest) = elim (cases_Bool (x == t)) [
  | inl e ↦ elim (cases_Bool (p x)) [ inl y ↦ simp (e, y) (without-filter t p rest) | inr y ↦ simp (e, y) (without-filter t p rest) ]
  | inr e ↦ elim (cases_Bool (p x)) [ inl y ↦ simp (e, y) (ap (λ ys. x ∷ ys) (without-filter t p rest)) | inr y ↦ simp (e, y) (without-filter t p rest) ]
]

-- ---- an update undone is a compensation

module _ (prev : Lsn) where
  pub undone-is_compensation : (b : Body) → is_update b ≡ true → is_compensation (undone prev b) ≡ true
  undone-is_compensation (Update key before after) e = refl
  undone-is_compensation (Compensation undo_next key after) e = absurd (false≢true e)
  undone-is_compensation Commit e = absurd (false≢true e)
  undone-is_compensation Rollback e = absurd (false≢true e)
  undone-is_compensation End e = absurd (false≢true e)
  undone-is_compensation BeginCheckpoint e = absurd (false≢true e)
  undone-is_compensation (EndCheckpoint transactions pages) e = absurd (false≢true e)
  undone-is_compensation Prepare e = absurd (false≢true e)

-- what a compensation is and does
module _ (b : Body) (c : is_compensation b ≡ true) where
  by_cases : (P : Body → Type 0) → ((undo_next : Lsn) (key : Key) (after : Image) → P (Compensation undo_next key after)) → P b
  by_cases P f = go b c
    where
      go : (b : Body) → is_compensation b ≡ true → P b
      go (Compensation undo_next key after) e = f undo_next key after
      go (Update key before after) e = absurd (false≢true e)
      go Commit e = absurd (false≢true e)
      go Rollback e = absurd (false≢true e)
      go End e = absurd (false≢true e)
      go BeginCheckpoint e = absurd (false≢true e)
      go (EndCheckpoint transactions pages) e = absurd (false≢true e)
      go Prepare e = absurd (false≢true e)

  pub compensation-is_transactional : is_transactional b ≡ true
  compensation-is_transactional = by_cases (λ b. is_transactional b ≡ true) (λ _ _ _. refl)

  pub compensation-is_end : is_end b ≡ false
  compensation-is_end = by_cases (λ b. is_end b ≡ false) (λ _ _ _. refl)

  pub compensation-is_commit : is_commit b ≡ false
  compensation-is_commit = by_cases (λ b. is_commit b ≡ false) (λ _ _ _. refl)

  pub compensation-is_prepare : is_prepare b ≡ false
  compensation-is_prepare = by_cases (λ b. is_prepare b ≡ false) (λ _ _ _. refl)

  pub compensation-is_rollback : is_rollback b ≡ false
  compensation-is_rollback = by_cases (λ b. is_rollback b ≡ false) (λ _ _ _. refl)

  pub compensation-to_undo : (left : List Record) (r : Record) → to_undo_after left r b ≡ drop 1 left
  compensation-to_undo left r = by_cases (λ b. to_undo_after left r b ≡ drop 1 left) (λ _ _ _. refl)

  pub compensation-survivors : (left : List Record) (r : Record) → survivors_after left r b ≡ without_newest r.trans.0 left
  compensation-survivors left r = by_cases (λ b. survivors_after left r b ≡ without_newest r.trans.0 left) (λ _ _ _. refl)

-- ---- the first of the losers' updates

pub losing-is_update : (log : List Record) (u : Record) (us : List Record) → losing log ≡ u ∷ us → is_update u.body ≡ true
unfolding losing
losing-is_update log u us e = (subst (AllByRecursion (λ v. is_update v.body ≡ true)) e (kept (all_surviving log) (All-is_update log))).0
  where
    kept : (vs : List Record) → AllByRecursion (λ v. is_update v.body ≡ true) vs → AllByRecursion (λ v. is_update v.body ≡ true) (filter (λ v. is_loser log v.trans.0) vs)
    kept [] a = tt
    kept (v ∷ rest) a = elim (cases_Bool (is_loser log v.trans.0)) [
      | inl y ↦ rw y (a.0, kept rest a.1)
      | inr y ↦ rw y (kept rest a.1)
    ]

pub losing-is_loser : (log : List Record) (u : Record) (us : List Record) → losing log ≡ u ∷ us → is_loser log u.trans.0 ≡ true
unfolding losing
losing-is_loser log u us e = (subst (AllByRecursion (λ v. is_loser log v.trans.0 ≡ true)) e (kept (all_surviving log))).0
  where
    kept : (vs : List Record) → AllByRecursion (λ v. is_loser log v.trans.0 ≡ true) (filter (λ v. is_loser log v.trans.0) vs)
    kept [] = tt
    kept (v ∷ rest) = elim (cases_Bool (is_loser log v.trans.0)) [
      | inl y ↦ rw y (y, kept rest)
      | inr y ↦ rw y (kept rest)
    ]

-- ---- a loser's compensation

module _ (log : List Record) (r : Record) (c : is_compensation r.body ≡ true) (l : is_loser log r.trans.0 ≡ true) where
  own : is_of r.trans.0 r ≡ true
  own = rw (compensation-is_transactional r.body c, eqb-refl r.trans.0) refl

  other : (x : ℕ) → (x == r.trans.0) ≡ false → is_of x r ≡ false
  other x e = rw (compensation-is_transactional r.body c) (eqb-sym r.trans.0 x ∙ e)

  parts : (is_unended log r.trans.0 ≡ true) × (is_committed log r.trans.0 ≡ false) × (is_in_doubt log r.trans.0 ≡ false)
  parts = loser_parts log r.trans.0 l

  pub compensation-is_in_doubt : (x : ℕ) → is_in_doubt (log ++ r ∷ []) x ≡ is_in_doubt log x
  compensation-is_in_doubt x = elim (cases_Bool (x == r.trans.0)) [
    | inl e ↦ let q : x ≡ r.trans.0 = eqb-true x r.trans.0 e in ap (is_in_doubt (log ++ r ∷ [])) q ∙ here ∙ ap (is_in_doubt log) (sym q)
    | inr e ↦ is_in_doubt-other log r x (other x e)
  ]
    where
      here : is_in_doubt (log ++ r ∷ []) r.trans.0 ≡ is_in_doubt log r.trans.0
      here = is_in_doubt-stays log r r.trans.0 own (has_ended-unended log r.trans.0 parts.0) (has_begun-unended log r.trans.0 parts.0) (compensation-is_end r.body c) (compensation-is_prepare r.body c) (compensation-is_commit r.body c) (compensation-is_rollback r.body c)

  pub compensation-is_loser : (x : ℕ) → is_loser (log ++ r ∷ []) x ≡ is_loser log x
  compensation-is_loser x = elim (cases_Bool (x == r.trans.0)) [
    | inl e ↦ let q : x ≡ r.trans.0 = eqb-true x r.trans.0 e in ap (is_loser (log ++ r ∷ [])) q ∙ here ∙ ap (is_loser log) (sym q)
    | inr e ↦ is_loser-other log r x (other x e)
  ]
    where
      here : is_loser (log ++ r ∷ []) r.trans.0 ≡ is_loser log r.trans.0
      here = is_loser-from (log ++ r ∷ []) r.trans.0
          (is_unended-own log r r.trans.0 own ∙ rw (compensation-is_end r.body c, has_ended-unended log r.trans.0 parts.0) refl)
          (is_committed-own log r r.trans.0 own ∙ rw (compensation-is_commit r.body c, parts.1) refl)
          (compensation-is_in_doubt r.trans.0 ∙ parts.2) ∙ sym l

  pub compensation-is_committed : (x : ℕ) → is_committed (log ++ r ∷ []) x ≡ is_committed log x
  compensation-is_committed x = elim (cases_Bool (x == r.trans.0)) [
    | inl e ↦ let q : x ≡ r.trans.0 = eqb-true x r.trans.0 e in ap (is_committed (log ++ r ∷ [])) q ∙ here ∙ ap (is_committed log) (sym q)
    | inr e ↦ is_committed-other log r x (other x e)
  ]
    where
      here : is_committed (log ++ r ∷ []) r.trans.0 ≡ is_committed log r.trans.0
      here = is_committed-own log r r.trans.0 own
          ∙ rw (compensation-is_commit r.body c, parts.1) refl

  pub compensation-all_surviving : all_surviving (log ++ r ∷ []) ≡ without_newest r.trans.0 (all_surviving log)
  compensation-all_surviving = all_surviving-push log r ∙ compensation-survivors r.body c (all_surviving log) r

  pub compensation-to_undo_of : to_undo (log ++ r ∷ []) r.trans.0 ≡ drop 1 (to_undo log r.trans.0)
  compensation-to_undo_of = to_undo-own log r r.trans.0 own ∙ compensation-to_undo r.body c (to_undo log r.trans.0) r

  pub compensation-unended : unended (log ++ r ∷ []) ≡ unended log
  compensation-unended = unended-more log r (compensation-is_transactional r.body c) (compensation-is_end r.body c) parts.0

  pub compensation-in_doubt : in_doubt (log ++ r ∷ []) ≡ in_doubt log
  unfolding in_doubt
  compensation-in_doubt =
      ap (filter (is_in_doubt (log ++ r ∷ []))) (transactions-same log r (compensation-is_transactional r.body c) (has_begun-unended log r.trans.0 parts.0))
      ∙ filter_agree (is_in_doubt (log ++ r ∷ [])) (is_in_doubt log) compensation-is_in_doubt (transactions log)

  pub compensation-doubting : doubting (log ++ r ∷ []) ≡ doubting log
  compensation-doubting =
      filter_agree (λ (u : Record). is_in_doubt (log ++ r ∷ []) u.trans.0) (λ u. is_in_doubt log u.trans.0) (λ u. compensation-is_in_doubt u.trans.0) (all_surviving (log ++ r ∷ []))
      ∙ ap (filter (λ u. is_in_doubt log u.trans.0)) compensation-all_surviving
      ∙ filter-passes_newest (is_in_doubt log) r.trans.0 parts.2 (all_surviving log)

  pub compensation-ending : ending (log ++ r ∷ []) ≡ ending log
  unfolding ending
  compensation-ending =
      ap (filter (λ x. not (is_in_doubt (log ++ r ∷ []) x))) compensation-unended
      ∙ filter_agree (λ x. not (is_in_doubt (log ++ r ∷ []) x)) (λ x. not (is_in_doubt log x)) (λ x. ap not (compensation-is_in_doubt x)) (unended log)

  -- of the updates to undo, the first is the one undone
  pub compensation-losing : (u : Record) (rest : List Record) → losing log ≡ u ∷ rest → u.trans.0 ≡ r.trans.0 → losing (log ++ r ∷ []) ≡ rest
  unfolding losing
  compensation-losing u rest e q =
      filter_agree (λ (u : Record). is_loser (log ++ r ∷ []) u.trans.0) (λ u. is_loser log u.trans.0) (λ u. compensation-is_loser u.trans.0) (all_surviving (log ++ r ∷ []))
      ∙ ap (filter (λ u. is_loser log u.trans.0)) compensation-all_surviving
      ∙ filter-without_newest (is_loser log) r.trans.0 l (all_surviving log) u rest e q

  -- and its transaction has what is left of its own
  pub loser-to_undo : (u : Record) (rest : List Record) → losing log ≡ u ∷ rest → u.trans.0 ≡ r.trans.0 → to_undo log r.trans.0 ≡ u ∷ filter (is_by r.trans.0) rest
  unfolding losing
  loser-to_undo u rest e q =
      let y : (u.trans.0 == r.trans.0) ≡ true = eq-eqb u.trans.0 r.trans.0 q in
      sym (all_surviving-by r.trans.0 log) ∙ sym (filter-by (is_loser log) r.trans.0 l (all_surviving log)) ∙ ap (filter (is_by r.trans.0)) e ∙ rw y refl

  finished_others : (x : ℕ) → (x == r.trans.0) ≡ false → is_finished (log ++ r ∷ []) x ≡ is_finished log x
  unfolding is_finished
  finished_others x e = rw (compensation-is_committed x, compensation-is_in_doubt x, to_undo-other log r x (other x e)) refl

  finished_here : (u : Record) (rest : List Record) → losing log ≡ u ∷ rest → u.trans.0 ≡ r.trans.0 → is_finished (log ++ r ∷ []) r.trans.0 ≡ not (list_any (is_by r.trans.0) rest)
  unfolding is_finished
  finished_here u rest e q =
      rw (compensation-is_committed r.trans.0, compensation-is_in_doubt r.trans.0, parts.1, parts.2, compensation-to_undo_of, loser-to_undo u rest e q)
      (ap not (is_some_left-filter (is_by r.trans.0) rest))

  unfinished_before : (u : Record) (rest : List Record) → losing log ≡ u ∷ rest → u.trans.0 ≡ r.trans.0 → is_finished log r.trans.0 ≡ false
  unfolding is_finished
  unfinished_before u rest e q = rw (parts.1, parts.2, loser-to_undo u rest e q) refl

  -- where no other transaction was finished, this one is after its last update
  pub compensation-finished : (u : Record) (rest : List Record) → losing log ≡ u ∷ rest → u.trans.0 ≡ r.trans.0 → filter (is_finished log) (unended log) ≡ [] → filter (is_finished (log ++ r ∷ [])) (unended (log ++ r ∷ [])) ≡ cond (list_any (is_by r.trans.0) rest) [] (r.trans.0 ∷ [])
  compensation-finished u rest e q none = ap (filter (is_finished (log ++ r ∷ []))) compensation-unended ∙ elim (cases_Bool (list_any (is_by r.trans.0) rest)) [
    | inl y ↦ rw y (filter_agree (is_finished (log ++ r ∷ [])) (is_finished log) (λ x. elim (cases_Bool (x == r.trans.0)) [
      | inl w ↦ let g : x ≡ r.trans.0 = eqb-true x r.trans.0 w in
          ap (is_finished (log ++ r ∷ [])) g ∙ finished_here u rest e q ∙ ap not y ∙ sym (unfinished_before u rest e q) ∙ ap (is_finished log) (sym g)
      | inr w ↦ finished_others x w
    ]) (unended log) ∙ none)
    | inr y ↦ rw y (filter-one (is_finished (log ++ r ∷ [])) (is_finished log) r.trans.0 finished_others (finished_here u rest e q ∙ ap not y) (unended log) (Apart-unended log) (is_among-unended log r.trans.0 ∙ parts.0) none)
  ]

-- ---- the end of a finished transaction

pub is_finished-in_doubt : (log : List Record) (t : ℕ) → is_finished log t ≡ true → is_in_doubt log t ≡ false
unfolding is_finished
is_finished-in_doubt log t f = elim (cases_Bool (is_committed log t)) [
  | inl c ↦ is_in_doubt-committed log t c
  | inr c ↦ not-true (is_in_doubt log t) (and_parts (not (is_in_doubt log t)) (not (is_some_left (to_undo log t))) (rw c at f)).0
]

module _ (log : List Record) (r : Record) (b : r.body ≡ End) (u : is_unended log r.trans.0 ≡ true) where
  end_own : is_of r.trans.0 r ≡ true
  end_own = rw (b, eqb-refl r.trans.0) refl

  end_other : (x : ℕ) → (x == r.trans.0) ≡ false → is_of x r ≡ false
  end_other x e = rw b (eqb-sym r.trans.0 x ∙ e)

  or-false : (h : Bool) → (h || false) ≡ h
  or-false true = refl
  or-false false = refl

  pub end-all_surviving : all_surviving (log ++ r ∷ []) ≡ all_surviving log
  end-all_surviving = all_surviving-push log r ∙ rw b refl

  pub end-is_committed : (x : ℕ) → is_committed (log ++ r ∷ []) x ≡ is_committed log x
  end-is_committed x = elim (cases_Bool (x == r.trans.0)) [
    | inl e ↦ let q : x ≡ r.trans.0 = eqb-true x r.trans.0 e in ap (is_committed (log ++ r ∷ [])) q ∙ here ∙ ap (is_committed log) (sym q)
    | inr e ↦ is_committed-other log r x (end_other x e)
  ]
    where
      here : is_committed (log ++ r ∷ []) r.trans.0 ≡ is_committed log r.trans.0
      here = is_committed-own log r r.trans.0 end_own ∙ rw b (or-false (is_committed log r.trans.0))

  pub end-to_undo : (x : ℕ) → to_undo (log ++ r ∷ []) x ≡ to_undo log x
  end-to_undo x = elim (cases_Bool (x == r.trans.0)) [
    | inl e ↦ let q : x ≡ r.trans.0 = eqb-true x r.trans.0 e in ap (to_undo (log ++ r ∷ [])) q ∙ here ∙ ap (to_undo log) (sym q)
    | inr e ↦ to_undo-other log r x (end_other x e)
  ]
    where
      here : to_undo (log ++ r ∷ []) r.trans.0 ≡ to_undo log r.trans.0
      here = to_undo-own log r r.trans.0 end_own ∙ rw b refl

  pub end-unended : unended (log ++ r ∷ []) ≡ without r.trans.0 (unended log)
  end-unended = unended-end log r (rw b refl) (rw b refl) (has_begun-unended log r.trans.0 u)

  -- a finished transaction is not in doubt
  pub end-is_in_doubt : is_finished log r.trans.0 ≡ true → (x : ℕ) → is_in_doubt (log ++ r ∷ []) x ≡ is_in_doubt log x
  end-is_in_doubt f x = elim (cases_Bool (x == r.trans.0)) [
    | inl e ↦ let q : x ≡ r.trans.0 = eqb-true x r.trans.0 e in ap (is_in_doubt (log ++ r ∷ [])) q ∙ is_in_doubt-over (log ++ r ∷ []) r.trans.0 over ∙ sym (is_finished-in_doubt log r.trans.0 f) ∙ ap (is_in_doubt log) (sym q)
    | inr e ↦ is_in_doubt-other log r x (end_other x e)
  ]
    where
      either : (h : Bool) → not (h || true) ≡ false
      either true = refl
      either false = refl

      over : is_unended (log ++ r ∷ []) r.trans.0 ≡ false
      over = is_unended-own log r r.trans.0 end_own ∙ rw b (either (has_ended log r.trans.0))

  end-is_finished : is_finished log r.trans.0 ≡ true → (x : ℕ) → is_finished (log ++ r ∷ []) x ≡ is_finished log x
  unfolding is_finished
  end-is_finished f x = rw (end-is_committed x, end-to_undo x, end-is_in_doubt f x) refl

  pub end-finished : is_finished log r.trans.0 ≡ true → (rest : List ℕ) → filter (is_finished log) (unended log) ≡ r.trans.0 ∷ rest → filter (is_finished (log ++ r ∷ [])) (unended (log ++ r ∷ [])) ≡ rest
  end-finished f rest e =
      ap (filter (is_finished (log ++ r ∷ []))) end-unended
      ∙ filter_agree (is_finished (log ++ r ∷ [])) (is_finished log) (end-is_finished f) (without r.trans.0 (unended log))
      ∙ without-filter r.trans.0 (is_finished log) (unended log)
      ∙ ap (without r.trans.0) e
      ∙ rw (eqb-refl r.trans.0) (without-absent r.trans.0 rest (subst Apart e (Apart-filter (is_finished log) (unended log) (Apart-unended log))).0)

  pub end-in_doubt : is_finished log r.trans.0 ≡ true → in_doubt (log ++ r ∷ []) ≡ in_doubt log
  unfolding in_doubt
  end-in_doubt f =
      ap (filter (is_in_doubt (log ++ r ∷ []))) (transactions-same log r (ap is_transactional b) (has_begun-unended log r.trans.0 u))
      ∙ filter_agree (is_in_doubt (log ++ r ∷ [])) (is_in_doubt log) (end-is_in_doubt f) (transactions log)

  pub end-doubting : is_finished log r.trans.0 ≡ true → doubting (log ++ r ∷ []) ≡ doubting log
  end-doubting f =
      filter_agree (λ (u : Record). is_in_doubt (log ++ r ∷ []) u.trans.0) (λ u. is_in_doubt log u.trans.0) (λ u. end-is_in_doubt f u.trans.0) (all_surviving (log ++ r ∷ []))
      ∙ ap (filter (λ u. is_in_doubt log u.trans.0)) end-all_surviving

  pub end-ending : is_finished log r.trans.0 ≡ true → ending (log ++ r ∷ []) ≡ without r.trans.0 (ending log)
  unfolding ending
  end-ending f =
      ap (filter (λ x. not (is_in_doubt (log ++ r ∷ []) x))) end-unended
      ∙ filter_agree (λ x. not (is_in_doubt (log ++ r ∷ []) x)) (λ x. not (is_in_doubt log x)) (λ x. ap not (end-is_in_doubt f x)) (without r.trans.0 (unended log))
      ∙ without-filter r.trans.0 (λ x. not (is_in_doubt log x)) (unended log)

  -- it had nothing to undo, so the losers' updates stay as they are
  pub end-losing : is_finished log r.trans.0 ≡ true → losing (log ++ r ∷ []) ≡ losing log
  unfolding losing is_finished is_loser
  end-losing f = ap (filter (λ u. is_loser (log ++ r ∷ []) u.trans.0)) end-all_surviving ∙ elim (cases_Bool (is_committed log r.trans.0)) [
    | inl c ↦ filter_agree (λ (v : Record). is_loser (log ++ r ∷ []) v.trans.0) (λ v. is_loser log v.trans.0) (λ v. committed c v.trans.0) (all_surviving log)
    | inr c ↦ filter-absent (λ v. is_loser (log ++ r ∷ []) v.trans.0) (λ v. is_loser log v.trans.0) r.trans.0 (λ v w. is_loser-other log r v.trans.0 (end_other v.trans.0 w)) (all_surviving log)
        (all_surviving-by r.trans.0 log ∙ nothing (to_undo log r.trans.0) (and_parts (not (is_in_doubt log r.trans.0)) (not (is_some_left (to_undo log r.trans.0))) (rw c at f)).1)
  ]
    where
      nothing : (left : List Record) → not (is_some_left left) ≡ true → left ≡ []
      nothing [] e = refl
      nothing (v ∷ rest) e = absurd (false≢true e)

      off : (a d : Bool) → (a && not true && d) ≡ false
      off true d = refl
      off false d = refl

      committed : is_committed log r.trans.0 ≡ true → (x : ℕ) → is_loser (log ++ r ∷ []) x ≡ is_loser log x
      committed c x = elim (cases_Bool (x == r.trans.0)) [
        | inl e ↦ let q : x ≡ r.trans.0 = eqb-true x r.trans.0 e in
            rw (q, end-is_committed r.trans.0, c) (off (is_unended (log ++ r ∷ []) r.trans.0) (not (is_in_doubt (log ++ r ∷ []) r.trans.0)) ∙ sym (off (is_unended log r.trans.0) (not (is_in_doubt log r.trans.0))))
        | inr e ↦ is_loser-other log r x (end_other x e)
      ]

-- ---- one step

-- what is appended where these are finished and these are to undo
abbrev left_of : List Record → List TailStep
left_of log = ends (filter (is_finished log) (unended log)) ++ undoes (losing log)

next_end : (log : List Record) (t : ℕ) (ts : List ℕ) → filter (is_finished log) (unended log) ≡ t ∷ ts → left_of (log ++ record_for log (Ends t) ∷ []) ≡ ends ts ++ undoes (losing log)
next_end log t ts p = ap (λ xs. ends xs ++ undoes (losing (log ++ r ∷ []))) (end-finished log r refl passes.1 passes.0 ts p) ∙ ap (λ us. ends ts ++ undoes us) (end-losing log r refl passes.1 passes.0)
  where
    r : Record
    r = record_for log (Ends t)

    passes : (is_finished log t ≡ true) × (is_unended log t ≡ true)
    passes = and_parts (is_finished log t) (is_unended log t)
        (ap (λ b. is_finished log t && b) (sym (is_among-unended log t)) ∙ sym (is_among-filter (is_finished log) t (unended log)) ∙ ap (λ xs. is_among xs t) p ∙ rw (eqb-refl t) refl)

next_undo : (log : List Record) (u : Record) (us : List Record) → filter (is_finished log) (unended log) ≡ [] → losing log ≡ u ∷ us → left_of (log ++ record_for log (Undoes u) ∷ []) ≡ cond (list_any (is_by u.trans.0) us) (undoes us) (Ends u.trans.0 ∷ undoes us)
next_undo log u us p q =
    ap (λ xs. ends xs ++ undoes (losing (log ++ r ∷ []))) (compensation-finished log r comp loser u us q refl p)
    ∙ ap (λ vs. ends (cond (list_any (is_by u.trans.0) us) [] (u.trans.0 ∷ [])) ++ undoes vs) (compensation-losing log r comp loser u us q refl)
    ∙ split (list_any (is_by u.trans.0) us)
  where
    r : Record
    r = record_for log (Undoes u)

    comp : is_compensation r.body ≡ true
    comp = undone-is_compensation u.prev u.body (losing-is_update log u us q)

    loser : is_loser log u.trans.0 ≡ true
    loser = losing-is_loser log u us q

    split : (b : Bool) → ends (cond b [] (u.trans.0 ∷ [])) ++ undoes us ≡ cond b (undoes us) (Ends u.trans.0 ∷ undoes us)
    split true = refl
    split false = refl

-- what follows the first step of a tail is the tail of the log with that step's record
pub tail_steps-next : (log : List Record) (step : TailStep) (rest : List TailStep) → tail_steps log ≡ step ∷ rest → tail_steps (log ++ record_for log step ∷ []) ≡ rest
unfolding tail_steps undoes
tail_steps-next log step rest e = go (filter (is_finished log) (unended log)) refl (losing log) refl e
  where
    go : (ts : List ℕ) → filter (is_finished log) (unended log) ≡ ts → (us : List Record) → losing log ≡ us → ends ts ++ undoes us ≡ step ∷ rest → left_of (log ++ record_for log step ∷ []) ≡ rest
    go (t ∷ ts) p us q e =
        let s : step ≡ Ends t = cc e in
        let m : ends ts ++ undoes us ≡ rest = cc e in
        ap (λ st. left_of (log ++ record_for log st ∷ [])) s ∙ next_end log t ts p ∙ ap (λ vs. ends ts ++ undoes vs) q ∙ m
    go [] p (u ∷ us) q e =
        let s : step ≡ Undoes u = cc e in
        let m : cond (list_any (is_by u.trans.0) us) (undoes us) (Ends u.trans.0 ∷ undoes us) ≡ rest = cc e in
        ap (λ st. left_of (log ++ record_for log st ∷ [])) s ∙ next_undo log u us p q ∙ m
    go [] p [] q e = absurd (cc e)

-- and it leaves in doubt who was, with the same updates
pub tail_steps-doubts : (log : List Record) (step : TailStep) (rest : List TailStep) → tail_steps log ≡ step ∷ rest → (in_doubt (log ++ record_for log step ∷ []) ≡ in_doubt log) × (doubting (log ++ record_for log step ∷ []) ≡ doubting log)
unfolding tail_steps undoes
tail_steps-doubts log step rest e = go (filter (is_finished log) (unended log)) refl (losing log) refl e
  where
    Same : TailStep → Type 0
    Same st = (in_doubt (log ++ record_for log st ∷ []) ≡ in_doubt log) × (doubting (log ++ record_for log st ∷ []) ≡ doubting log)

    at_end : (t : ℕ) (ts : List ℕ) → filter (is_finished log) (unended log) ≡ t ∷ ts → Same (Ends t)
    at_end t ts p = (end-in_doubt log r refl passes.1 passes.0, end-doubting log r refl passes.1 passes.0)
      where
        r : Record
        r = record_for log (Ends t)

        passes : (is_finished log t ≡ true) × (is_unended log t ≡ true)
        passes = and_parts (is_finished log t) (is_unended log t)
            (ap (λ b. is_finished log t && b) (sym (is_among-unended log t)) ∙ sym (is_among-filter (is_finished log) t (unended log)) ∙ ap (λ xs. is_among xs t) p ∙ rw (eqb-refl t) refl)

    at_undo : (u : Record) (us : List Record) → losing log ≡ u ∷ us → Same (Undoes u)
    at_undo u us q = (compensation-in_doubt log r comp loser, compensation-doubting log r comp loser)
      where
        r : Record
        r = record_for log (Undoes u)

        comp : is_compensation r.body ≡ true
        comp = undone-is_compensation u.prev u.body (losing-is_update log u us q)

        loser : is_loser log u.trans.0 ≡ true
        loser = losing-is_loser log u us q

    go : (ts : List ℕ) → filter (is_finished log) (unended log) ≡ ts → (us : List Record) → losing log ≡ us → ends ts ++ undoes us ≡ step ∷ rest → Same step
    go (t ∷ ts) p us q e = let s : step ≡ Ends t = cc e in subst Same (sym s) (at_end t ts p)
    go [] p (u ∷ us) q e = let s : step ≡ Undoes u = cc e in subst Same (sym s) (at_undo u us q)
    go [] p [] q e = absurd (cc e)

-- ---- the law of one takeover log

-- after any number of records of the tail, the tail is the rest
numbered-front : (n : ℕ) (log : List Record) (steps : List TailStep) → tail_steps log ≡ steps → tail_of (log ++ take n (numbered log steps)) ≡ drop n (numbered log steps)
unfolding numbered tail_of
numbered-front zero log steps e = ap tail_of (append-nil log) ∙ ap (numbered log) e
numbered-front (suc n) log [] e = ap tail_of (append-nil log) ∙ ap (numbered log) e
numbered-front (suc n) log (step ∷ rest) e =
    ap tail_of (sym (append_assoc log (record_for log step ∷ []) (take n (numbered (log ++ record_for log step ∷ []) rest))))
    ∙ numbered-front n (log ++ record_for log step ∷ []) rest (tail_steps-next log step rest e)

pub tail_of-front : (log : List Record) (n : ℕ) → tail_of (log ++ take n (tail_of log)) ≡ drop n (tail_of log)
unfolding tail_of
tail_of-front log n = numbered-front n log (tail_steps log) refl
