-- Who holds a key against a transaction that has no record yet.
use Rattle.std.proofs.Common.{◌≡◌, ℕ, ◌==◌, Bool, true, false, cond, not, ◌&&◌, List, Option, Some, None, refl, sym, ap, ◌∙◌, inl, inr}
use Rattle.std.proofs.lemmas.Bool.{cases_Bool, eqb-true}
use Rattle.als_record.specs.declared.key.Key.{Key}
use Rattle.als_record.specs.declared.trans_id.TransId.{TransId}
use Rattle.als_record.specs.declared.record.Body.TheVariants.{Update}
use Rattle.als_record.specs.declared.record.Record.{Record}
use Rattle.als_record.specs.Spelling.{Image}
use Rattle.als_record.specs.Transactions.{has_begun, is_open}
use Rattle.als_record.specs.Validity.{is_valid, held_by}
use Rattle.als_record.proofs.Records.{is_open-none}
use Rattle.als_validator.specs.declared.key_state.KeyState.{KeyState}
use Rattle.als_validator.specs.Keys.{IsKeyOf}
use Rattle.als_validator.proofs.HolderSteps.{held_by-kept}

-- the one that is kept with the key, while it is open
pub held_by-new : (log : List Record) (r : Record) (key : Key) (before after : Image) → is_valid log ≡ true → r.body ≡ Update key before after → (kept : KeyState) → IsKeyOf kept log key → has_begun log r.trans.0 ≡ false
    → cond (not (kept.count == 0) && is_open log kept.holder.0) (Some kept.holder) None ≡ held_by log r
held_by-new log r key before after v b kept is n = alike ∙ sym (held_by-kept log r key before after v b kept is)
  where
    off : (x y : Bool) → (x && y && false) ≡ (x && false)
    off true true = refl
    off true false = refl
    off false y = refl

    on : (x y : Bool) → (x && true && y) ≡ (x && y)
    on true y = refl
    on false y = refl

    alike : cond {A = Option TransId} (not (kept.count == 0) && is_open log kept.holder.0) (Some kept.holder) None ≡ cond (not (kept.count == 0) && not (kept.holder.0 == r.trans.0) && is_open log kept.holder.0) (Some kept.holder) None
    alike = elim (cases_Bool (kept.holder.0 == r.trans.0)) [
      | inl e ↦
          let o : is_open log kept.holder.0 ≡ false = ap (is_open log) (eqb-true kept.holder.0 r.trans.0 e) ∙ is_open-none log r.trans.0 n in
          ap (λ b. cond {A = Option TransId} b (Some kept.holder) None) (ap (λ b. not (kept.count == 0) && b) o ∙ sym (off (not (kept.count == 0)) (not (kept.holder.0 == r.trans.0))) ∙ ap (λ b. not (kept.count == 0) && not (kept.holder.0 == r.trans.0) && b) (sym o))
      | inr e ↦ ap (λ b. cond {A = Option TransId} b (Some kept.holder) None) (sym (on (not (kept.count == 0)) (is_open log kept.holder.0)) ∙ ap (λ b. not (kept.count == 0) && not b && is_open log kept.holder.0) (sym e))
    ]
