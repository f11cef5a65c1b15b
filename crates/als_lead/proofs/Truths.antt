-- The answers of a group after its force are true, and stay so.
use Rattle.std.proofs.Common.{◌≡◌, ◌≤◌, ◌⊎◌, Bool, true, false, List, [], ◌∷◌, ◌++◌, refl, ap, subst, ◌∙◌, inl, inr, arith, leb-true}
use Rattle.std.specs.Prelude.{nat_le, if◌then◌else◌}
use Rattle.std.specs.List.{AllByRecursion}
use Rattle.als_record.specs.declared.lsn.Lsn.{Lsn}
use Rattle.als_record.specs.declared.record.Record.{Record}
use Rattle.als_record.specs.LogText.{end_of}
use Rattle.als_record.specs.Commits.{Commit, commits_of}
use Rattle.als_record.specs.Validity.{is_valid}
use Rattle.als_record.proofs.PageLaws.{end_of-append}
use Rattle.als_record.proofs.CommitSteps.{commits_of-front}
use Rattle.als_store.specs.Stored.{acknowledged}
use Rattle.als_engine.specs.declared.fault.Fault.{Fault}
use Rattle.als_engine.specs.Machine.{Machine, Keeps}
use Rattle.als_writer.specs.declared.not_decided.NotDecided.{NotDecided as Undecided}
use Rattle.als_writer.specs.declared.not_decided.NotDecided.TheVariants as undecided
use Rattle.als_writer.specs.declared.refusal.Refusal.{Refusal}
use Rattle.als_writer.specs.declared.refusal.Refusal.TheVariants as refusal
use Rattle.als_writer.specs.declared.work.Work.{Work}
use Rattle.als_writer.specs.declared.work.Work.TheVariants as work
use Rattle.als_writer.specs.declared.written.Written.{Written}
use Rattle.als_lead.specs.declared.answer.Answer.{Answer}
use Rattle.als_lead.specs.declared.answer.Answer.TheVariants.{Committed, Prepared, Decided, Refused, NotDecided, Unknown, Withheld}
use Rattle.als_lead.specs.declared.asked.Asked.{Asked}
use Rattle.als_lead.specs.declared.forced.Forced.{Forced}
use Rattle.als_lead.specs.declared.forced.Forced.TheVariants.{Failed, Unconfirmed, Confirmed}
use Rattle.als_lead.specs.declared.told.Told.{Told}
use Rattle.als_lead.specs.Going.{Grows}
use Rattle.als_lead.specs.Answers.{IsWritten, IsDurable, AddsWritten, AddsBy, Adds, WasRefused, IsRefused, IsEnded, IsTrueAnswer, IsTrueOf, asked_of}
use Rattle.als_lead.specs.Groups.{IsHeld, IsHeldOf, IsStableTo, IsStableIn, done_by, written_after, refused_after, undecided_after, answer_after, all_after}
use Rattle.als_lead.proofs.Going.{grows_keeps}
use Rattle.als_lead.proofs.Doing.{written_on, was_on}

-- ---- after a force

-- where the log of one machine goes on to that of another, its end is not above
pub grows_end : (old new : Machine) → Grows old new → end_of old.held.log ≤ end_of new.held.log
grows_end old new g = omega (arith, ap (λ (l : List Record). end_of l) g.log, end_of-append old.held.log g.more)

refused_stably : (m : Machine) (lsn : Lsn) (asked : Work) (a : Answer) → IsStableTo m lsn → WasRefused m asked a → IsRefused m asked a
refused_stably m lsn asked a s w = record { was = w; stable = omega (arith, grows_end w.after m w.goes_on, s.whole, s.reaches) }

true_done : (m : Machine) (asked : Work) (w : Written) → IsDurable m asked w → IsTrueAnswer m asked (done_by asked w)
true_done m (work.Commit t) w d = (tt, d)
true_done m (work.Prepare t) w d = (tt, d)
true_done m (work.Decide trans verdict) w d = (tt, d)

true_if : (m : Machine) (lsn : Lsn) (asked : Work) (w : Written) (b : Bool) → nat_le w.end.0 lsn.0 ≡ b → IsStableTo m lsn → IsWritten m asked w
    → IsTrueAnswer m asked (if b then done_by asked w else Unknown w)
true_if m lsn asked w true e s i = true_done m asked w (record { written = i; durable = omega (arith, leb-true w.end.0 lsn.0 e, s.reaches) })
true_if m lsn asked w false e s i = i

true_written : (m : Machine) (forced : Forced) → IsStableIn forced m → (asked : Work) (w : Written) → IsWritten m asked w → IsTrueAnswer m asked (written_after forced asked w)
true_written m (Confirmed lsn) s asked w i = true_if m lsn asked w (nat_le w.end.0 lsn.0) refl s i
true_written m Unconfirmed s asked w i = i
true_written m (Failed f) s asked w i = i

-- a refusal is one of a transaction, and the leader that has ended refuses it so
pub ended_refused : (m : Machine) (asked : Work) (r : Refusal) (f : Fault) → WasRefused m asked (Refused r) ⊎ IsEnded asked (Refused r) → IsEnded asked (Refused (refusal.State f))
ended_refused m (work.Commit t) r f h = (f, refl)
ended_refused m (work.Prepare t) r f h = (f, refl)
ended_refused m (work.Decide trans verdict) r f h = elim h [
  | inl was ↦ absurd was.refused
  | inr ended ↦ absurd ended
]

pub ended_undecided : (m : Machine) (asked : Work) (r : Undecided) (f : Fault) → WasRefused m asked (NotDecided r) ⊎ IsEnded asked (NotDecided r) → IsEnded asked (NotDecided (undecided.State f))
ended_undecided m (work.Decide trans verdict) r f h = (f, refl)
ended_undecided m (work.Commit t) r f h = elim h [
  | inl was ↦ absurd was.refused
  | inr ended ↦ absurd ended
]
ended_undecided m (work.Prepare t) r f h = elim h [
  | inl was ↦ absurd was.refused
  | inr ended ↦ absurd ended
]

true_refused : (m : Machine) (forced : Forced) → IsStableIn forced m → (asked : Work) (r : Refusal) → WasRefused m asked (Refused r) ⊎ IsEnded asked (Refused r) → IsTrueAnswer m asked (refused_after forced r)
true_refused m (Confirmed lsn) s asked r h = elim h [
  | inl was ↦ inl (refused_stably m lsn asked (Refused r) s was)
  | inr ended ↦ inr ended
]
true_refused m Unconfirmed s asked r h = tt
true_refused m (Failed f) s asked r h = inr (ended_refused m asked r f h)

true_undecided : (m : Machine) (forced : Forced) → IsStableIn forced m → (asked : Work) (r : Undecided) → WasRefused m asked (NotDecided r) ⊎ IsEnded asked (NotDecided r) → IsTrueAnswer m asked (undecided_after forced r)
true_undecided m (Confirmed lsn) s asked r h = elim h [
  | inl was ↦ inl (refused_stably m lsn asked (NotDecided r) s was)
  | inr ended ↦ inr ended
]
true_undecided m Unconfirmed s asked r h = tt
true_undecided m (Failed f) s asked r h = inr (ended_undecided m asked r f h)

pub true_after : (m : Machine) (forced : Forced) → IsStableIn forced m → (asked : Work) (a : Answer) → IsHeld m asked a → IsTrueAnswer m asked (answer_after forced asked a)
true_after m forced s asked (Committed w) h = true_written m forced s asked w h.1
true_after m forced s asked (Prepared w) h = true_written m forced s asked w h.1
true_after m forced s asked (Decided w) h = true_written m forced s asked w h.1
true_after m forced s asked (Unknown w) h = true_written m forced s asked w h
true_after m forced s asked (Refused r) h = true_refused m forced s asked r h
true_after m forced s asked (NotDecided r) h = true_undecided m forced s asked r h
true_after m forced s asked Withheld h = tt

pub all_true_after : (m : Machine) (forced : Forced) → IsStableIn forced m → (told : List Told) → AllByRecursion (IsHeldOf m) told → AllByRecursion (IsTrueOf m) (all_after forced told)
all_true_after m forced s [] h = tt
all_true_after m forced s (x ∷ xs) h = (true_after m forced s x.asked.work x.answer h.0, all_true_after m forced s xs h.1)

-- ---- a force changes no commit and no seat

done_adds : (log : List Record) (asked : Work) (w : Written) (cs : List Commit) → AddsWritten log asked w cs → AddsBy log asked (done_by asked w) cs
done_adds log (work.Commit t) w cs a = a
done_adds log (work.Prepare t) w cs a = a
done_adds log (work.Decide trans verdict) w cs a = a

if_adds : (log : List Record) (asked : Work) (w : Written) (b : Bool) (cs : List Commit) → AddsWritten log asked w cs → AddsBy log asked (if b then done_by asked w else Unknown w) cs
if_adds log asked w true cs a = done_adds log asked w cs a
if_adds log asked w false cs a = a

written_adds : (log : List Record) (forced : Forced) (asked : Work) (w : Written) (cs : List Commit) → AddsWritten log asked w cs → AddsBy log asked (written_after forced asked w) cs
written_adds log (Confirmed lsn) asked w cs a = if_adds log asked w (nat_le w.end.0 lsn.0) cs a
written_adds log Unconfirmed asked w cs a = a
written_adds log (Failed f) asked w cs a = a

refused_adds : (log : List Record) (forced : Forced) (asked : Work) (r : Refusal) (cs : List Commit) → cs ≡ [] → AddsBy log asked (refused_after forced r) cs
refused_adds log (Confirmed lsn) asked r cs a = a
refused_adds log Unconfirmed asked r cs a = a
refused_adds log (Failed f) asked r cs a = a

undecided_adds : (log : List Record) (forced : Forced) (asked : Work) (r : Undecided) (cs : List Commit) → cs ≡ [] → AddsBy log asked (undecided_after forced r) cs
undecided_adds log (Confirmed lsn) asked r cs a = a
undecided_adds log Unconfirmed asked r cs a = a
undecided_adds log (Failed f) asked r cs a = a

after_adds : (log : List Record) (forced : Forced) (asked : Work) (a : Answer) (cs : List Commit) → AddsBy log asked a cs → AddsBy log asked (answer_after forced asked a) cs
after_adds log forced asked (Committed w) cs h = written_adds log forced asked w cs h
after_adds log forced asked (Prepared w) cs h = written_adds log forced asked w cs h
after_adds log forced asked (Decided w) cs h = written_adds log forced asked w cs h
after_adds log forced asked (Unknown w) cs h = written_adds log forced asked w cs h
after_adds log forced asked (Refused r) cs h = refused_adds log forced asked r cs h
after_adds log forced asked (NotDecided r) cs h = undecided_adds log forced asked r cs h
after_adds log forced asked Withheld cs h = h

pub all_after_adds : (log : List Record) (forced : Forced) (told : List Told) (cs : List Commit) → Adds log told cs → Adds log (all_after forced told) cs
all_after_adds log forced [] cs a = a
all_after_adds log forced (x ∷ xs) cs a = (a.0, a.1, a.2, after_adds log forced x.asked.work x.answer a.0 a.3, all_after_adds log forced xs a.1 a.4)

pub all_after_asked : (forced : Forced) (told : List Told) → asked_of (all_after forced told) ≡ asked_of told
all_after_asked forced [] = refl
all_after_asked forced (x ∷ xs) = ap (λ (rest : List Asked). x.asked ∷ rest) (all_after_asked forced xs)

-- ---- a true answer stays true

durable_on : (mid new : Machine) (cs : List Commit) → Grows mid new → commits_of new.held.log ≡ commits_of mid.held.log ++ cs → (asked : Work) (w : Written) → IsDurable mid asked w → IsDurable new asked w
durable_on mid new cs g e asked w d = record { written = written_on mid new cs g e asked w d.written; durable = omega (arith, d.durable, g.acknowledged) }

refused_on : (mid new : Machine) (asked : Work) (a : Answer) → Grows mid new → IsRefused mid asked a → IsRefused new asked a
refused_on mid new asked a g i =
    let s : end_of i.was.after.held.log ≤ acknowledged new.held = omega (arith, i.stable, g.acknowledged) in
    record { was = was_on mid new asked a g i.was; stable = s }

pub true_on : (mid new : Machine) (cs : List Commit) → Grows mid new → commits_of new.held.log ≡ commits_of mid.held.log ++ cs → (asked : Work) (a : Answer) → IsTrueAnswer mid asked a → IsTrueAnswer new asked a
true_on mid new cs g e asked (Committed w) h = (h.0, durable_on mid new cs g e asked w h.1)
true_on mid new cs g e asked (Prepared w) h = (h.0, durable_on mid new cs g e asked w h.1)
true_on mid new cs g e asked (Decided w) h = (h.0, durable_on mid new cs g e asked w h.1)
true_on mid new cs g e asked (Unknown w) h = written_on mid new cs g e asked w h
true_on mid new cs g e asked Withheld h = tt
true_on mid new cs g e asked (Refused r) h = elim h [
  | inl was ↦ inl (refused_on mid new asked (Refused r) g was)
  | inr ended ↦ inr ended
]
true_on mid new cs g e asked (NotDecided r) h = elim h [
  | inl was ↦ inl (refused_on mid new asked (NotDecided r) g was)
  | inr ended ↦ inr ended
]

pub all_true_on : (mid new : Machine) (cs : List Commit) → Grows mid new → commits_of new.held.log ≡ commits_of mid.held.log ++ cs → (told : List Told) → AllByRecursion (IsTrueOf mid) told → AllByRecursion (IsTrueOf new) told
all_true_on mid new cs g e [] h = tt
all_true_on mid new cs g e (x ∷ xs) h = (true_on mid new cs g e x.asked.work x.answer h.0, all_true_on mid new cs g e xs h.1)

-- each event keeps a true answer true
pub true_kept : (old new : Machine) (told : Told) → Keeps old new → is_valid new.held.log ≡ true → IsTrueOf old told → IsTrueOf new told
true_kept old new told keeps valid is =
    let on : is_valid (old.held.log ++ keeps.more) ≡ true = subst (λ (l : List Record). is_valid l ≡ true) keeps.log valid in
    let front = commits_of-front old.held.log keeps.more on in
    true_on old new front.0 (grows_keeps old new keeps) (ap (λ (l : List Record). commits_of l) keeps.log ∙ front.1) told.asked.work told.answer is
