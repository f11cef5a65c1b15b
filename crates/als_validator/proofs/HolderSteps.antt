-- What is kept of a key says who holds it.
use Rattle.std.proofs.Common.{◌≡◌, ℕ, ◌==◌, ◌+◌, true, false, cond, not, ◌&&◌, List, [], ◌∷◌, Some, None, refl, sym, ap, ◌∙◌, inl, inr, arith}
use Rattle.std.specs.List.{list_any}
use Rattle.std.proofs.lemmas.Bool.{cases_Bool, eqb-true, eq-eqb, false≢true, and_parts, not-true}
use Rattle.als_record.specs.declared.key.Key.{Key}
use Rattle.als_record.specs.declared.record.Body.TheVariants.{Update}
use Rattle.als_record.specs.declared.record.Record.{Record}
use Rattle.als_record.specs.Spelling.{Image}
use Rattle.als_record.specs.Transactions.{to_undo, is_committed, has_ended, is_unended, is_open}
use Rattle.als_record.specs.Images.{is_update_at}
use Rattle.als_record.specs.Validity.{is_valid, held_by}
use Rattle.als_record.proofs.Records.{has_ended-unended}
use Rattle.als_record.proofs.Held.{holds, held_by-open, held_by-nobody}
use Rattle.als_validator.specs.declared.key_state.KeyState.{KeyState}
use Rattle.als_validator.specs.Keys.{updates_at, IsKeyOf}
use Rattle.als_validator.proofs.KeySteps.{count-none}

-- an open transaction has neither committed nor ended
open_parts : (log : List Record) (t : ℕ) → is_open log t ≡ true → (is_committed log t ≡ false) × (has_ended log t ≡ false)
unfolding is_open
open_parts log t l =
    let p : (is_unended log t ≡ true) × (not (is_committed log t) ≡ true) = and_parts (is_unended log t) (not (is_committed log t)) l in
    (not-true (is_committed log t) p.1, has_ended-unended log t p.0)

none-counted : (k : Key) (us : List Record) → updates_at k us ≡ 0 → list_any (λ u. is_update_at k u.body) us ≡ false
none-counted k [] e = refl
none-counted k (u ∷ us) e = elim (cases_Bool (is_update_at k u.body)) [
  | inl y ↦ let f : 1 + updates_at k us ≡ 0 = (rw y at e) in absurd (omega arith)
  | inr y ↦ let f : 0 + updates_at k us ≡ 0 = (rw y at e) in rw y (none-counted k us (omega arith))
]

module _ (log : List Record) (r : Record) (key : Key) (fore after : Image) (v : is_valid log ≡ true) (b : r.body ≡ Update key fore after) (kept : KeyState) (is : IsKeyOf kept log key) where
  counted : (t : ℕ) → is_open log t ≡ true → updates_at key (to_undo log t) ≡ cond (t == kept.holder.0) kept.count 0
  counted t l = let p = open_parts log t l in is.held t p.0 p.1

  -- nobody holds the key where each other open transaction counts none
  free : ((t : ℕ) → is_open log t ≡ true → (t == r.trans.0) ≡ false → (t == kept.holder.0) ≡ true → kept.count ≡ 0) → held_by log r ≡ None
  free n = held_by-nobody log r key fore after b (λ t l d. none-counted key (to_undo log t) (elim (cases_Bool (t == kept.holder.0)) [
    | inl e ↦ counted t l ∙ rw e (n t l d e)
    | inr e ↦ counted t l ∙ rw e refl
  ]))

  pub held_by-kept : held_by log r ≡ cond (not (kept.count == 0) && not (kept.holder.0 == r.trans.0) && is_open log kept.holder.0) (Some kept.holder) None
  held_by-kept = elim (cases_Bool (kept.count == 0)) [
    | inl z ↦ rw z (free (λ t l d e. eqb-true kept.count 0 z))
    | inr z ↦ elim (cases_Bool (kept.holder.0 == r.trans.0)) [
      | inl y ↦ rw (z, y) (free (λ t l d e. absurd (false≢true (sym d ∙ eq-eqb t r.trans.0 (eqb-true t kept.holder.0 e ∙ eqb-true kept.holder.0 r.trans.0 y)))))
      | inr y ↦ elim (cases_Bool (is_open log kept.holder.0)) [
        | inr x ↦ rw (z, y, x) (free (λ t l d e. absurd (false≢true (sym x ∙ ap (is_open log) (sym (eqb-true t kept.holder.0 e)) ∙ l))))
        | inl x ↦ rw (z, y, x) (held_by-open log r key fore after v b kept.holder.0 x y (some x z))
      ]
    ]
  ]
    where
      some : is_open log kept.holder.0 ≡ true → (kept.count == 0) ≡ false → holds log kept.holder.0 key ≡ true
      some x z = elim (cases_Bool (holds log kept.holder.0 key)) [
        | inl e ↦ e
        | inr e ↦
            let n : updates_at key (to_undo log kept.holder.0) ≡ 0 = count-none key (to_undo log kept.holder.0) e in
            let m : updates_at key (to_undo log kept.holder.0) ≡ kept.count = counted kept.holder.0 x ∙ rw (eq-eqb kept.holder.0 kept.holder.0 refl) refl in
            absurd (false≢true (sym z ∙ eq-eqb kept.count 0 (sym m ∙ n)))
      ]
