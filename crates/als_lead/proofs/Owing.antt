-- What is due may be told, also once the engine has gone on.
use Rattle.std.proofs.Common.{◌≡◌, ℕ, Bool, true, false, List, [], ◌∷◌, Result, Ok, Err, IfOk, IfErr, refl, sym, subst, inl, inr}
use Rattle.std.specs.Prelude.{nat_le, if◌then◌else◌}
use Rattle.std.specs.List.{AllByRecursion}
use Rattle.als_record.specs.declared.lsn.Lsn.{Lsn}
use Rattle.als_store.specs.Stored.{acknowledged}
use Rattle.als_engine.specs.declared.fault.Fault.{Fault}
use Rattle.als_engine.specs.Machine.{Machine}
use Rattle.als_writer.specs.declared.not_decided.NotDecided.{NotDecided as Undecided}
use Rattle.als_writer.specs.declared.refusal.Refusal.{Refusal}
use Rattle.als_writer.specs.declared.work.Work.{Work}
use Rattle.als_writer.specs.declared.work.Work.TheVariants as work
use Rattle.als_writer.specs.declared.written.Written.{Written}
use Rattle.als_lead.specs.declared.answer.Answer.{Answer}
use Rattle.als_lead.specs.declared.answer.Answer.TheVariants.{Committed, Prepared, Decided, Refused, NotDecided, Unknown, Withheld}
use Rattle.als_lead.specs.declared.asked.Asked.{Asked}
use Rattle.als_lead.specs.declared.forced.Forced.{Forced}
use Rattle.als_lead.specs.declared.forced.Forced.TheVariants as forced
use Rattle.als_lead.specs.declared.told.Told.{Told}
use Rattle.als_lead.specs.Going.{Grows}
use Rattle.als_lead.specs.Answers.{IsWritten}
use Rattle.als_lead.specs.Groups.{IsHeld, IsHeldOf, IsStableTo, IsStableIn, done_by, written_after, refused_after, undecided_after, answer_after}
use Rattle.als_lead.specs.Leading.{AllTold}
use Rattle.als_lead.specs.Confirming.{IsForcedBy, IsFailedBy, IsShowable, IsTried, IsTriedOf}
use Rattle.als_lead.specs.Owed.{IsNotForced, HasFailed, IsCaused, IsDue, Owes}
use Rattle.als_lead.proofs.Going.{grows_trans}
use Rattle.als_lead.proofs.Truths.{true_after}
use Rattle.als_lead.proofs.Confirms.{HoldsIn, MissesIn, confirmed_after}
use Rattle.als_lead.proofs.Excuses.{excused_if, doubted_missed}
use Rattle.als_lead.proofs.Failing.{not_forced_on}

-- ---- what is shown

pub showable : (alone : Type 0) (confirmed missed : ℕ → Type 0) (m : Machine) (durable : Result Lsn Fault) (result : Forced) → IsForcedBy confirmed missed durable result
    → IfOk durable (λ lsn. alone → lsn.0 ≡ acknowledged m.held) → IsShowable alone confirmed m result
showable alone confirmed missed m durable (forced.Confirmed lsn) by exact =
    let at : IfOk {E = Fault} (Ok lsn) (λ (l : Lsn). alone → l.0 ≡ acknowledged m.held) = subst (λ (d : Result Lsn Fault). IfOk d (λ (l : Lsn). alone → l.0 ≡ acknowledged m.held)) by.0 exact in
    λ a. subst confirmed (at a) by.1
showable alone confirmed missed m durable forced.Unconfirmed by exact = tt
showable alone confirmed missed m durable (forced.Failed f) by exact = tt

-- ---- where the group failed, its force did or its confirmation

abbrev pub FailsIn : Type 0 → Forced → Type 0
FailsIn cause (forced.Confirmed lsn) = Unit {0}
FailsIn cause forced.Unconfirmed = Unit {0}
FailsIn cause (forced.Failed f) = cause

pub fails_by : {E U : Type 0} (alone : Type 0) (machine : E → Machine) (failed : U → Fault → Type 0) (start mid : Machine) (u : U) (durable : Result Lsn Fault) (result : Forced) → IsFailedBy (failed u) durable result
    → IfErr durable (λ f. alone → IsNotForced E machine mid f) → (alone → Grows start mid) → alone → FailsIn (HasFailed machine failed start) result
fails_by {E} {U} alone machine failed start mid u durable (forced.Confirmed lsn) by refused g a = tt
fails_by {E} {U} alone machine failed start mid u durable forced.Unconfirmed by refused g a = tt
fails_by {E} {U} alone machine failed start mid u durable (forced.Failed f) by refused g a = elim by [
  | inl is ↦
      let at : IfErr {T = Lsn} (Err f) (λ (x : Fault). alone → IsNotForced E machine mid x) = subst (λ (d : Result Lsn Fault). IfErr d (λ (x : Fault). alone → IsNotForced E machine mid x)) is refused in
      (f, inl (not_forced_on E machine start mid f (g a) (at a)))
  | inr h ↦ (f, inr (u, h))
]

-- ---- causes

caused_done : {E U : Type 0} (machine : E → Machine) (missed : ℕ → Type 0) (failed : U → Fault → Type 0) (start m : Machine) (asked : Work) (w : Written) → IsCaused machine missed failed start m asked (done_by asked w)
caused_done machine missed failed start m (work.Commit t) w = tt
caused_done machine missed failed start m (work.Prepare t) w = tt
caused_done machine missed failed start m (work.Decide trans verdict) w = tt

caused_if : {E U : Type 0} (machine : E → Machine) (missed : ℕ → Type 0) (failed : U → Fault → Type 0) (start : Machine) (e : E) (lsn : Lsn) (asked : Work) (w : Written) (b : Bool) → nat_le w.end.0 lsn.0 ≡ b
    → IsStableTo (machine e) lsn → IsWritten (machine e) asked w → IsCaused machine missed failed start (machine e) asked (if b then done_by asked w else Unknown w)
caused_if machine missed failed start e lsn asked w true le s h = caused_done machine missed failed start (machine e) asked w
caused_if machine missed failed start e lsn asked w false le s h = inl (excused_if missed machine e lsn asked w false le s h)

caused_written : {E U : Type 0} (machine : E → Machine) (missed : ℕ → Type 0) (failed : U → Fault → Type 0) (start : Machine) (e : E) (result : Forced) → MissesIn missed result → FailsIn (HasFailed machine failed start) result
    → IsStableIn result (machine e) → (asked : Work) (w : Written) → IsWritten (machine e) asked w → IsCaused machine missed failed start (machine e) asked (written_after result asked w)
caused_written machine missed failed start e (forced.Confirmed lsn) m f s asked w h = caused_if machine missed failed start e lsn asked w (nat_le w.end.0 lsn.0) refl s h
caused_written machine missed failed start e forced.Unconfirmed m f s asked w h = inl (doubted_missed missed machine (machine e) asked w m)
caused_written machine missed failed start e (forced.Failed x) m f s asked w h = inr f

caused_refused : {E U : Type 0} (machine : E → Machine) (missed : ℕ → Type 0) (failed : U → Fault → Type 0) (start m : Machine) (result : Forced) → MissesIn missed result → (asked : Work) (r : Refusal)
    → IsCaused machine missed failed start m asked (refused_after result r)
caused_refused machine missed failed start m (forced.Confirmed lsn) misses asked r = tt
caused_refused machine missed failed start m forced.Unconfirmed misses asked r = misses
caused_refused machine missed failed start m (forced.Failed f) misses asked r = tt

caused_undecided : {E U : Type 0} (machine : E → Machine) (missed : ℕ → Type 0) (failed : U → Fault → Type 0) (start m : Machine) (result : Forced) → MissesIn missed result → (asked : Work) (r : Undecided)
    → IsCaused machine missed failed start m asked (undecided_after result r)
caused_undecided machine missed failed start m (forced.Confirmed lsn) misses asked r = tt
caused_undecided machine missed failed start m forced.Unconfirmed misses asked r = misses
caused_undecided machine missed failed start m (forced.Failed f) misses asked r = tt

caused_after : {E U : Type 0} (machine : E → Machine) (missed : ℕ → Type 0) (failed : U → Fault → Type 0) (start : Machine) (e : E) (result : Forced) → MissesIn missed result → FailsIn (HasFailed machine failed start) result
    → IsStableIn result (machine e) → (asked : Work) (a : Answer) → IsTried a → IsHeld (machine e) asked a → IsCaused machine missed failed start (machine e) asked (answer_after result asked a)
caused_after machine missed failed start e result m f s asked (Committed w) tried h = absurd tried
caused_after machine missed failed start e result m f s asked (Prepared w) tried h = absurd tried
caused_after machine missed failed start e result m f s asked (Decided w) tried h = absurd tried
caused_after machine missed failed start e result m f s asked (Unknown w) tried h = caused_written machine missed failed start e result m f s asked w h
caused_after machine missed failed start e result m f s asked (Refused r) tried h = caused_refused machine missed failed start (machine e) result m asked r
caused_after machine missed failed start e result m f s asked (NotDecided r) tried h = caused_undecided machine missed failed start (machine e) result m asked r
caused_after machine missed failed start e result m f s asked Withheld tried h = absurd tried

-- ---- all of a group

module _ {E U : Type 0} (alone : Type 0) (machine : E → Machine) (confirmed missed : U → ℕ → Type 0) (alike : U → U → Type 0) (failed : U → Fault → Type 0) (start : E) (upkeep : U) (may_tell : Asked → Answer → Type 0) where
  -- one of the group's machine is due
  due_one : (e : E) (u : U) (result : Forced) → Grows (machine start) (machine e) → IsStableIn result (machine e) → HoldsIn (confirmed u) result → MissesIn (missed u) result
      → FailsIn (HasFailed machine failed (machine start)) result → (x : Told) → IsTriedOf x → IsHeldOf (machine e) x
      → IsDue E U machine confirmed missed failed start e u x.asked.work (answer_after result x.asked.work x.answer)
  due_one e u result g s c m f x tried held = record {
    goes_on = g;
    true_of = true_after (machine e) result s x.asked.work x.answer held;
    holds = confirmed_after (confirmed u) (machine e) result s c x.asked.work x.answer held;
    caused = caused_after machine (missed u) failed (machine start) e result m f s x.asked.work x.answer tried held;
  }

  pub owed_all : (e : E) (u : U) (result : Forced) → Owes alone machine confirmed missed alike failed start upkeep may_tell → ((n : ℕ) → confirmed upkeep n → confirmed u n) → ((n : ℕ) → missed upkeep n → missed u n) → ((other : U) → alike other upkeep → alike other u)
      → (alone → Grows (machine start) (machine e)) → (alone → IsStableIn result (machine e)) → HoldsIn (confirmed u) result → MissesIn (missed u) result
      → (alone → FailsIn (HasFailed machine failed (machine start)) result) → (queued : List Told) → AllByRecursion IsTriedOf queued → (alone → AllByRecursion (IsHeldOf (machine e)) queued)
      → AllByRecursion (λ (x : Told). may_tell x.asked (answer_after result x.asked.work x.answer)) queued
  owed_all e u result owes keeps misses same g s c m f [] tried held = tt
  owed_all e u result owes keeps misses same g s c m f (x ∷ xs) tried held = (
    owes e u x.asked (answer_after result x.asked.work x.answer) keeps misses same (λ a. due_one e u result (g a) (s a) c m (f a) x tried.0 (held a).0),
    owed_all e u result owes keeps misses same g s c m f xs tried.1 (λ a. (held a).1),
  )

-- ---- an engine that has gone on

caused_on : {E U : Type 0} (machine : E → Machine) (missed : ℕ → Type 0) (failed : U → Fault → Type 0) (start mid m : Machine) (asked : Work) (a : Answer) → Grows start mid
    → IsCaused machine missed failed mid m asked a → IsCaused machine missed failed start m asked a
caused_on {E} machine missed failed start mid m asked (Committed w) g h = tt
caused_on {E} machine missed failed start mid m asked (Prepared w) g h = tt
caused_on {E} machine missed failed start mid m asked (Decided w) g h = tt
caused_on {E} machine missed failed start mid m asked (Refused r) g h = tt
caused_on {E} machine missed failed start mid m asked (NotDecided r) g h = tt
caused_on {E} machine missed failed start mid m asked Withheld g h = h
caused_on {E} machine missed failed start mid m asked (Unknown w) g h = elim h [
  | inl doubted ↦ inl doubted
  | inr has ↦ inr (
    has.0,
    elim has.1 [
      | inl n ↦ inl (not_forced_on E machine start mid has.0 g n)
      | inr u ↦ inr u
    ],
  )
]

pub owes_on : {E U : Type 0} (alone : Type 0) (machine : E → Machine) (confirmed missed : U → ℕ → Type 0) (alike : U → U → Type 0) (failed : U → Fault → Type 0) (old new : E) (u v : U) (may_tell : Asked → Answer → Type 0)
    → Owes alone machine confirmed missed alike failed old u may_tell → (alone → Grows (machine old) (machine new)) → ((n : ℕ) → confirmed u n → confirmed v n) → ((n : ℕ) → missed u n → missed v n)
    → ((other : U) → alike other u → alike other v) → Owes alone machine confirmed missed alike failed new v may_tell
owes_on alone machine confirmed missed alike failed old new u v may_tell owes g keeps misses same e w asked answer more lost like due =
    owes e w asked answer (λ n h. more n (keeps n h)) (λ n h. lost n (misses n h)) (λ other h. like other (same other h))
    (λ a. record {
      goes_on = grows_trans (machine old) (machine new) (machine e) (g a) (due a).goes_on;
      true_of = (due a).true_of;
      holds = (due a).holds;
      caused = caused_on machine (missed w) failed (machine old) (machine new) (machine e) asked.work answer (g a) (due a).caused;
    })

-- each was written or not
pub tried_all : (queued : List Told) → AllTold IsTriedOf [] queued → AllByRecursion IsTriedOf queued
tried_all queued t =
    let joined : queued ≡ t.more = t.answered in
    subst (λ (q : List Told). AllByRecursion IsTriedOf q) (sym joined) t.each

-- ---- another upkeep

-- the cause is the same by another upkeep that fails where this one does
pub caused_by : {E U V : Type 0} (machine : E → Machine) (missed : ℕ → Type 0) (failed : U → Fault → Type 0) (failed_too : V → Fault → Type 0) (start m : Machine) (asked : Work) (a : Answer)
    → ((u : U) (f : Fault) → failed u f → (v : V) × failed_too v f) → IsCaused machine missed failed start m asked a → IsCaused machine missed failed_too start m asked a
caused_by machine missed failed failed_too start m asked (Committed w) fails h = tt
caused_by machine missed failed failed_too start m asked (Prepared w) fails h = tt
caused_by machine missed failed failed_too start m asked (Decided w) fails h = tt
caused_by machine missed failed failed_too start m asked (Refused r) fails h = tt
caused_by machine missed failed failed_too start m asked (NotDecided r) fails h = tt
caused_by machine missed failed failed_too start m asked Withheld fails h = h
caused_by machine missed failed failed_too start m asked (Unknown w) fails h = elim h [
  | inl doubted ↦ inl doubted
  | inr has ↦ inr (
    has.0,
    elim has.1 [
      | inl n ↦ inl n
      | inr u ↦ inr (fails u.0 has.0 u.1)
    ],
  )
]
