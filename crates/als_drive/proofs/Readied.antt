-- What the end of a recovery leaves.
use Rattle.std.proofs.Common.{◌≡◌, Bool, true, false, Result, Ok, Err, [], ◌∷◌, refl, sym, ap, subst, ◌∙◌, inl, inr}
use Rattle.std.specs.Prelude.{MatchOption, not, nat_lt}
use Rattle.als_store.specs.Stored.{pending_of}
use Rattle.als_engine.specs.declared.fault.Fault.{Fault}
use Rattle.als_engine.specs.declared.fault.Fault.TheVariants.{NothingToDo, Stopped, NotDrained}
use Rattle.als_engine.specs.declared.step.Step.TheVariants as step
use Rattle.als_engine.specs.Machine.{Machine}
use Rattle.als_engine.specs.Refusals.{first_of, refusal}
use Rattle.als_engine.specs.Readiness.{BecomesReady, Readies}
use Rattle.als_drive.specs.Driving.{IsDrained, IsRecovered, OnlyRedoes, OnlyRecovers, RedoRefused, RecoveryRefused}
use Rattle.als_drive.proofs.Redoing.{refused_or_acts}

readied_recovered : (old new : Machine) → IsDrained old → BecomesReady old (Ok tt) new → IsRecovered new
readied_recovered old new drained acts = subst (λ (m : Machine). IsRecovered m) (sym acts) (record { drained = drained; ready = refl })

pub ready_done : (old new : Machine) → IsDrained old → Readies old (Ok tt) new → IsRecovered new
ready_done old new drained e =
    refused_or_acts (refusal old step.Ready) (BecomesReady old (Ok tt) new) (IsRecovered new) (λ f. (Ok (tt {0}) ≡ Err f) × (new ≡ old)) (readied_recovered old new drained) (λ (f : Fault) (same : (Ok (tt {0}) ≡ Err f) × (new ≡ old)). cc same.0) e

-- there was nothing to end only where it was not recovering
nothing_to_end : (broken recovering pending : Bool) (answer : Result (Unit {0}) Fault) (old new : Machine) → answer ≡ Err NothingToDo → MatchOption (first_of ((broken, Stopped) ∷ (not recovering, NothingToDo) ∷ (pending, NotDrained) ∷ [])) (BecomesReady old answer new) (λ f. (answer ≡ Err f) × (new ≡ old)) → (recovering ≡ false) × (new ≡ old)
nothing_to_end true recovering pending answer old new is e = cc (sym is ∙ e.0)
nothing_to_end false false pending answer old new is e = (refl, e.1)
nothing_to_end false true true answer old new is e = cc (sym is ∙ e.0)
nothing_to_end false true false answer old new is e = let acts = subst (λ (r : Result (Unit {0}) Fault). BecomesReady old r new) is e in cc acts.0

pub ready_before : (old new : Machine) → IsDrained old → Readies old (Err NothingToDo) new → IsRecovered new
ready_before old new drained e =
    let was = nothing_to_end old.held.broken old.held.recovering (nat_lt 0 (pending_of old.held)) (Err NothingToDo) old new refl e in
    subst (λ (m : Machine). IsRecovered m) (sym was.1) (record { drained = drained; ready = was.0 })

pub ready_refused : (cause : Fault) (old new : Machine) → Readies old (Err cause) new → RecoveryRefused cause new
ready_refused cause old new e = inr (old, e)

pub drain_refused : (cause : Fault) (new : Machine) → RedoRefused cause new → RecoveryRefused cause new
drain_refused cause new e = inl e

-- ---- what a recovery leaves as it was

pub same_recovers : (m : Machine) → OnlyRecovers m m
same_recovers m = refl

readied_keeps : (old new : Machine) → BecomesReady old (Ok tt) new → OnlyRecovers old new
readied_keeps old new acts = subst (λ (m : Machine). OnlyRecovers old m) (sym acts) refl

pub ready_keeps : (old new : Machine) → Readies old (Ok tt) new → OnlyRecovers old new
ready_keeps old new e =
    refused_or_acts (refusal old step.Ready) (BecomesReady old (Ok tt) new) (OnlyRecovers old new) (λ f. (Ok (tt {0}) ≡ Err f) × (new ≡ old)) (readied_keeps old new) (λ (f : Fault) (same : (Ok (tt {0}) ≡ Err f) × (new ≡ old)). cc same.0) e

-- where there was nothing to end, nothing changed
pub unready_keeps : (old new : Machine) → Readies old (Err NothingToDo) new → OnlyRecovers old new
unready_keeps old new e =
    let was = nothing_to_end old.held.broken old.held.recovering (nat_lt 0 (pending_of old.held)) (Err NothingToDo) old new refl e in
    subst (λ (m : Machine). OnlyRecovers old m) (sym was.1) refl

pub redo_then_recovers : (a b c : Machine) → OnlyRedoes a b → OnlyRecovers b c → OnlyRecovers a c
redo_then_recovers a b c p q =
    q ∙ ap (λ (m : Machine). record m {
      held = record m.held { pool = c.held.pool; failures = c.held.failures; recovering = c.held.recovering };
      listed = c.listed;
      published = c.published;
    }) p
