-- What the validator answers, as the store passes it on.
use Rattle.std.proofs.Common.{◌≡◌, Option, Some, None, Result, Ok, Err, refl, sym, ap, ◌∙◌, inl}
use Rattle.als_record.specs.declared.cause.Cause.{Cause}
use Rattle.als_record.specs.declared.record.Record.{Record}
use Rattle.als_record.specs.Validity.{first_bad}
use Rattle.als_validator.specs.declared.fault.Fault.TheVariants as refusal
use Rattle.als_validator.specs.FaultNames.{answer_of}
use Rattle.als_store.specs.declared.fault.Fault.{Fault}
use Rattle.als_store.specs.declared.fault.Fault.TheVariants.{Invalid}
use Rattle.als_store.specs.Stored.{Stored, IsRefused, judgement_of}

abbrev done : Result (Unit {0}) Fault
done = Ok tt

abbrev failed : Fault → Result (Unit {0}) Fault
failed f = Err f

pub judged_ok : (o : Option Cause) → Ok tt ≡ answer_of o → done ≡ judgement_of o
judged_ok None e = refl
judged_ok (Some c) e = absurd cc

pub judged_invalid : (o : Option Cause) (c : Cause) (f : Fault)
    → Err (refusal.Invalid c) ≡ answer_of o → f ≡ Invalid c → failed f ≡ judgement_of o
judged_invalid None c f e g = absurd cc
judged_invalid (Some d) c f e g = let same : c ≡ d = cc in ap failed (g ∙ ap Invalid same)

pub judged_memory : (o : Option Cause) (f : Fault) → Err refusal.Memory ≡ answer_of o
    → failed f ≡ judgement_of o
judged_memory None f e = absurd cc
judged_memory (Some d) f e = absurd cc

none_from : (o : Option Cause) → done ≡ judgement_of o → o ≡ None
none_from None e = refl
none_from (Some c) e = absurd cc

-- a record that is not refused
pub good_from : (o : Option Cause) (result : Result (Unit {0}) Fault) → result ≡ done
    → result ≡ judgement_of o → o ≡ None
good_from o result was e = none_from o (sym was ∙ e)

cause_from : (o : Option Cause) (f : Fault) → failed f ≡ judgement_of o → (c : Cause) × (o ≡ Some c)
    × (f ≡ Invalid c)
cause_from None f e = absurd cc
cause_from (Some c) f e = (c, refl, cc)

-- a record that is refused
pub refused_from : (s : Stored) (r : Record) (result : Result (Unit {0}) Fault) (f : Fault)
    → result ≡ failed f → result ≡ judgement_of (first_bad s.log r) → IsRefused s r f
refused_from s r result f was e = inl (cause_from (first_bad s.log r) f (sym was ∙ e))

-- and of which no cause is said
pub not_judged : (o : Option Cause) (result : Result (Unit {0}) Fault) (f : Fault)
    → result ≡ failed f → result ≡ judgement_of o → o ≡ None → ⊥
not_judged None result f was e none = absurd cc
not_judged (Some c) result f was e none = absurd cc
