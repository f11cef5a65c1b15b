-- Which transaction holds a key, in a valid log: at most one loser.
use Rattle.std.proofs.Common.{◌≡◌, ℕ, ◌==◌, ◌+◌, Bool, true, false, not, ◌&&◌, List, [], ◌∷◌, filter, find, Option, Some, None, option_map, refl, sym, ap, ◌∙◌, inl, inr, arith}
use Rattle.std.specs.List.{list_any, AllByRecursion}
use Rattle.std.proofs.lemmas.Bool.{cases_Bool, eqb-true, ne_eqb, false≢true, and_parts, or_parts, not-true, or_cases}
use Rattle.als_record.specs.declared.trans_id.TransId.{TransId}
use Rattle.als_record.specs.declared.key.Key.{Key}
use Rattle.als_record.specs.declared.record.Body.{Body}
use Rattle.als_record.specs.declared.record.Body.TheVariants.{Update, Compensation, Commit, Rollback, End, BeginCheckpoint, EndCheckpoint, Prepare}
use Rattle.als_record.specs.declared.record.Record.{Record}
use Rattle.als_record.specs.Spelling.{Image}
use Rattle.als_record.specs.Transactions.{is_update, to_undo, is_open, all_surviving}
use Rattle.als_record.specs.Images.{is_update_at}
use Rattle.als_record.specs.Validity.{holder, held_by, is_valid}
use Rattle.als_record.proofs.Numbers.{eqb-refl}
use Rattle.als_record.proofs.Survivors.{is_by, all_surviving-by}
use Rattle.als_record.proofs.Standing.{Covers}
use Rattle.als_record.proofs.Sound.{Sound-valid, is_closed, is_closed-open}

-- whether a transaction has a surviving update of a key
abbrev pub holds : List Record → ℕ → Key → Bool
holds log t k = list_any (λ u. is_update_at k u.body) (to_undo log t)

-- ---- the first update that another loser holds the key by

-- a transaction's updates in a list
abbrev any_at : ℕ → Key → List Record → Bool
any_at t k us = list_any (λ u. is_update_at k u.body) (filter (is_by t) us)

module _ (closed : ℕ → Bool) (loses : ℕ → Bool) (open_ : (x : ℕ) → loses x ≡ true → closed x ≡ false) (k : Key) (s : ℕ) where
  -- below an update of the key by one loser, no other loser has one
  alone : (v : Record) (us : List Record) → AllByRecursion (λ u. is_update_at k u.body ≡ true → (u.trans.0 == v.trans.0) ≡ false → closed u.trans.0 ≡ true) us → (t : ℕ) → loses t ≡ true → any_at t k us ≡ true → (t == v.trans.0) ≡ true
  alone v [] c t l h = absurd (false≢true h)
  alone v (u ∷ us) c t l h = elim (cases_Bool (u.trans.0 == t)) [
    | inr y ↦ alone v us c.1 t l (rw y at h)
    | inl y ↦ elim (or_cases (is_update_at k u.body) (any_at t k us) (rw y at h)) [
      | inr z ↦ alone v us c.1 t l z
      | inl z ↦ elim (cases_Bool (t == v.trans.0)) [
        | inl w ↦ w
        | inr w ↦
            let q : u.trans.0 ≡ t = eqb-true u.trans.0 t y in
            let d : closed u.trans.0 ≡ true = c.0 z (ap (λ n. n == v.trans.0) q ∙ w) in
            absurd (false≢true (sym (open_ t l) ∙ ap closed (sym q) ∙ d))
      ]
    ]
  ]

  found : (us : List Record) → Covers closed us → (t : ℕ) → loses t ≡ true → (t == s) ≡ false → any_at t k us ≡ true → option_map (λ u. u.trans) (find (λ u. is_update_at k u.body && not (u.trans.0 == s) && loses u.trans.0) us) ≡ Some (record { 0 = t })
  found [] c t l d h = absurd (false≢true h)
  found (u ∷ us) c t l d h = elim (cases_Bool (is_update_at k u.body && not (u.trans.0 == s) && loses u.trans.0)) [
    | inl y ↦ rw y (named (mine (and_parts _ _ (and_parts _ _ y).0).0))
    | inr y ↦ rw y (found us c.1 t l d (later y))
  ]
    where
      named : u.trans.0 ≡ t → Some u.trans ≡ Some (record { 0 = t })
      named q = ap (λ n. let o : Option TransId = Some (record { 0 = n }) in o) q

      mine : is_update_at k u.body ≡ true → u.trans.0 ≡ t
      mine z = elim (cases_Bool (u.trans.0 == t)) [
        | inl w ↦ eqb-true u.trans.0 t w
        | inr w ↦ let g : any_at t k us ≡ true = (rw w at h) in sym (eqb-true t u.trans.0 (alone u us (c.0 k z) t l g))
      ]

      later : (is_update_at k u.body && not (u.trans.0 == s) && loses u.trans.0) ≡ false → any_at t k us ≡ true
      later y = elim (cases_Bool (u.trans.0 == t)) [
        | inr w ↦ (rw w at h)
        | inl w ↦ elim (or_cases (is_update_at k u.body) (any_at t k us) (rw w at h)) [
          | inr z ↦ z
          | inl z ↦
              let q : u.trans.0 ≡ t = eqb-true u.trans.0 t w in
              let o : (u.trans.0 == s) ≡ false = ap (λ n. n == s) q ∙ d in
              let p : loses u.trans.0 ≡ true = ap loses q ∙ l in
              absurd (false≢true (sym y ∙ rw (z, o, p) refl))
        ]
      ]

-- no update passes where no loser has one of the key
nobody : (loses : ℕ → Bool) (k : Key) (s : ℕ) (us : List Record) → ((t : ℕ) → loses t ≡ true → (t == s) ≡ false → any_at t k us ≡ false) → find (λ u. is_update_at k u.body && not (u.trans.0 == s) && loses u.trans.0) us ≡ None
nobody loses k s [] n = refl
nobody loses k s (u ∷ us) n = elim (cases_Bool (is_update_at k u.body && not (u.trans.0 == s) && loses u.trans.0)) [
  | inl y ↦
      let a : ((is_update_at k u.body && not (u.trans.0 == s)) ≡ true) × (loses u.trans.0 ≡ true) = and_parts _ _ y in
      let b : (is_update_at k u.body ≡ true) × (not (u.trans.0 == s) ≡ true) = and_parts _ _ a.0 in
      let f : any_at u.trans.0 k (u ∷ us) ≡ false = n u.trans.0 a.1 (not-true (u.trans.0 == s) b.1) in
      absurd (false≢true (sym f ∙ rw (eqb-refl u.trans.0, b.0) refl))
  | inr y ↦ rw y (nobody loses k s us (λ t l d. below t (n t l d)))
]
  where
    below : (t : ℕ) → any_at t k (u ∷ us) ≡ false → any_at t k us ≡ false
    below t e = elim (cases_Bool (u.trans.0 == t)) [
      | inl w ↦ (or_parts (is_update_at k u.body) (any_at t k us) (rw w at e)).1
      | inr w ↦ (rw w at e)
    ]

-- ---- the law

-- a key held by a loser is held by that one
pub held_by-open : (log : List Record) (r : Record) (key : Key) (before after : Image) → is_valid log ≡ true → r.body ≡ Update key before after → (t : ℕ) → is_open log t ≡ true → (t == r.trans.0) ≡ false → holds log t key ≡ true → held_by log r ≡ Some (record { 0 = t })
unfolding held_by
held_by-open log r key before after v b t l d h =
    ap (λ x. option_map (λ u. u.trans) (holder log r.trans.0 x)) b
    ∙ found (is_closed log) (is_open log) (is_closed-open log) key r.trans.0 (all_surviving log) (Sound-valid log v).covers t l d (ap (list_any (λ u. is_update_at key u.body)) (all_surviving-by t log) ∙ h)

-- a key held by none is held by none
pub held_by-nobody : (log : List Record) (r : Record) (key : Key) (before after : Image) → r.body ≡ Update key before after → ((t : ℕ) → is_open log t ≡ true → (t == r.trans.0) ≡ false → holds log t key ≡ false) → held_by log r ≡ None
unfolding held_by
held_by-nobody log r key before after b n =
    ap (λ x. option_map (λ u. u.trans) (holder log r.trans.0 x)) b
    ∙ ap (option_map (λ u. u.trans)) (nobody (is_open log) key r.trans.0 (all_surviving log) (λ t l d. ap (list_any (λ u. is_update_at key u.body)) (all_surviving-by t log) ∙ n t l d))

-- a record of another kind finds no key held
pub held_by-other : (log : List Record) (r : Record) → is_update r.body ≡ false → held_by log r ≡ None
unfolding held_by
held_by-other log r u = go r.body u
  where
    go : (b : Body) → is_update b ≡ false → option_map (λ u. u.trans) (holder log r.trans.0 b) ≡ None
    go (Update key before after) e = absurd (false≢true (sym e))
    go (Compensation undo_next key after) e = refl
    go Commit e = refl
    go Rollback e = refl
    go End e = refl
    go BeginCheckpoint e = refl
    go (EndCheckpoint transactions pages) e = refl
    go Prepare e = refl

-- two losers never hold the same key
pub holds-one : (log : List Record) → is_valid log ≡ true → (k : Key) (s t : ℕ) → is_open log s ≡ true → is_open log t ≡ true → holds log s k ≡ true → holds log t k ≡ true → s ≡ t
holds-one log v k s t ls lt hs ht = one (sym (at s (omega arith) ls hs) ∙ at t (omega arith) lt ht)
  where
    one : ◌≡◌ {A = Option TransId} (Some (record { 0 = s })) (Some (record { 0 = t })) → s ≡ t
    one e = ap number e
      where
        number : Option TransId → ℕ
        number None = 0
        number (Some x) = x.0

    at : (x : ℕ) → (x ≡ s + t + 1 → ⊥) → is_open log x ≡ true → holds log x k ≡ true → option_map (λ u. u.trans) (find (λ u. is_update_at k u.body && not (u.trans.0 == s + t + 1) && is_open log u.trans.0) (all_surviving log)) ≡ Some (record { 0 = x })
    at x d l h = found (is_closed log) (is_open log) (is_closed-open log) k (s + t + 1) (all_surviving log) (Sound-valid log v).covers x l (ne_eqb x (s + t + 1) d) (ap (list_any (λ u. is_update_at k u.body)) (all_surviving-by x log) ∙ h)
