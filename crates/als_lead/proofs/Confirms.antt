-- What others hold of a log, and what of it is answered and shown.
use Rattle.std.proofs.Common.{◌≡◌, ◌≤◌, ◌+◌, ℕ, Bool, true, false, List, [], ◌∷◌, ◌++◌, ◌⊎◌, Result, Ok, Err, IfOk, OnOk, refl, sym, ap, subst, ◌∙◌, inl, inr, arith, append-nil, append_assoc, leb-true}
use Rattle.std.specs.Prelude.{nat_le, if◌then◌else◌, IsOk}
use Rattle.std.specs.List.{AllByRecursion}
use Rattle.als_record.specs.declared.lsn.Lsn.{Lsn}
use Rattle.als_record.specs.declared.record.Record.{Record}
use Rattle.als_record.specs.LogText.{end_of}
use Rattle.als_record.specs.Commits.{Commit, commits_of}
use Rattle.als_commits.specs.Counting.{ended_count}
use Rattle.als_commits.proofs.Counting.{ended_count-append}
use Rattle.als_store.specs.Stored.{acknowledged}
use Rattle.als_engine.specs.declared.fault.Fault.{Fault}
use Rattle.als_operate.specs.declared.fault.Fault.{Fault as OperateFault}
use Rattle.als_engine.specs.Machine.{Machine, acknowledged_in}
use Rattle.als_writer.specs.declared.not_decided.NotDecided.{NotDecided as Undecided}
use Rattle.als_writer.specs.declared.refusal.Refusal.{Refusal}
use Rattle.als_writer.specs.declared.work.Work.{Work}
use Rattle.als_writer.specs.declared.work.Work.TheVariants as work
use Rattle.als_writer.specs.declared.written.Written.{Written}
use Rattle.als_lead.specs.declared.answer.Answer.{Answer}
use Rattle.als_lead.specs.declared.answer.Answer.TheVariants.{Committed, Prepared, Decided, Refused, NotDecided, Unknown, Withheld}
use Rattle.als_lead.specs.declared.forced.Forced.{Forced}
use Rattle.als_lead.specs.declared.forced.Forced.TheVariants as forced
use Rattle.als_lead.specs.declared.told.Told.{Told}
use Rattle.als_lead.specs.Going.{Grows, Stays, Publishes}
use Rattle.als_lead.specs.Answers.{WasRefused, IsEnded}
use Rattle.als_lead.specs.Groups.{IsHeld, IsHeldOf, IsStableTo, IsStableIn, done_by, written_after, refused_after, undecided_after, answer_after, all_after}
use Rattle.als_lead.specs.Leading.{AllTold}
use Rattle.als_lead.specs.Confirming.{IsForcedBy, GoesOn, PublishesIn, IsShown, IsRefusedBy, IsConfirmedTo, IsConfirmedBy, IsConfirmedOf, IsForCause, IsOpenForCause, IsBegun, IsBegunOf, IsCarried, IsCarriedOut}
use Rattle.als_lead.proofs.Going.{grows_refl, stable_on}
use Rattle.als_lead.proofs.Doing.{all_append, was_on}
use Rattle.als_lead.proofs.Truths.{grows_end, ended_refused, ended_undecided}

-- ---- answers that are all such

pub all_map : (P Q : Told → Type 0) (xs : List Told) → ((x : Told) → P x → Q x) → AllByRecursion P xs → AllByRecursion Q xs
all_map P Q [] f h = tt
all_map P Q (x ∷ xs) f h = (f x h.0, all_map P Q xs f h.1)

pub told_none : (P : Told → Type 0) (told told_now : List Told) → told_now ≡ told → AllTold P told told_now
told_none P told told_now e = record { more = []; answered = e ∙ sym (append-nil told); each = tt }

pub told_map : (P Q : Told → Type 0) (told told_now : List Told) → ((x : Told) → P x → Q x) → AllTold P told told_now → AllTold Q told told_now
told_map P Q told told_now f t = record { more = t.more; answered = t.answered; each = all_map P Q t.more f t.each }

pub told_both : (P Q : Told → Type 0) (told told_mid told_now : List Told) → ((x : Told) → P x → Q x) → AllTold P told told_mid → AllTold Q told_mid told_now → AllTold Q told told_now
told_both P Q told told_mid told_now f p q = record {
  more = p.more ++ q.more;
  answered = q.answered ∙ ap (λ (x : List Told). x ++ q.more) p.answered ∙ append_assoc told p.more q.more;
  each = all_append Q p.more q.more (all_map P Q p.more f p.each) q.each;
}

pub told_from : (P : Told → Type 0) (told told_mid told_now : List Told) → told_mid ≡ told → AllTold P told_mid told_now → AllTold P told told_now
told_from P told told_mid told_now e t = subst (λ (x : List Told). AllTold P x told_now) e t

-- ---- results

pub ok_then : (P : Type 0) (r : Result (Unit {0}) OperateFault) → IsOk r → OnOk r P → P
ok_then P (Ok done) ok h = h
ok_then P (Err f) ok h = cc ok

pub on_ok_any : {T E : Type 0} (P : Type 0) (r : Result T E) → P → OnOk r P
on_ok_any P (Ok done) h = h
on_ok_any P (Err f) h = tt

-- where the first of two failures did not come, neither came
pub both_ok : (P : Type 0) (r a filled shown : Result (Unit {0}) OperateFault) → OnOk r (IsOk a) → OnOk a (IsOk filled) → OnOk a (IsOk shown) → (IsOk filled → IsOk shown → P) → OnOk r P
both_ok P (Ok done) a filled shown r x y f = f (ok_then (IsOk filled) a r x) (ok_then (IsOk shown) a r y)
both_ok P (Err e) a filled shown r x y f = tt

-- ---- a force and its confirmation

-- where the group is confirmed, it is confirmed up to there
abbrev pub HoldsIn : (ℕ → Type 0) → Forced → Type 0
HoldsIn confirmed (forced.Confirmed lsn) = confirmed lsn.0
HoldsIn confirmed forced.Unconfirmed = Unit {0}
HoldsIn confirmed (forced.Failed f) = Unit {0}

-- where it is not, that was missed
abbrev pub MissesIn : (ℕ → Type 0) → Forced → Type 0
MissesIn missed (forced.Confirmed lsn) = Unit {0}
MissesIn missed forced.Unconfirmed = (end : ℕ) × missed end
MissesIn missed (forced.Failed f) = Unit {0}

pub holds_by : (confirmed confirmed_now missed : ℕ → Type 0) (durable : Result Lsn Fault) (result : Forced) → IsForcedBy confirmed missed durable result → ((n : ℕ) → confirmed n → confirmed_now n) → HoldsIn confirmed_now result
holds_by confirmed confirmed_now missed durable (forced.Confirmed lsn) by keeps = keeps lsn.0 by.1
holds_by confirmed confirmed_now missed durable forced.Unconfirmed by keeps = tt
holds_by confirmed confirmed_now missed durable (forced.Failed f) by keeps = tt

pub misses_by : (confirmed missed missed_now : ℕ → Type 0) (durable : Result Lsn Fault) (result : Forced) → IsForcedBy confirmed missed durable result → ((n : ℕ) → missed n → missed_now n) → MissesIn missed_now result
misses_by confirmed missed missed_now durable (forced.Confirmed lsn) by keeps = tt
misses_by confirmed missed missed_now durable forced.Unconfirmed by keeps = (by.0, keeps by.0 by.1)
misses_by confirmed missed missed_now durable (forced.Failed f) by keeps = tt

pub stable_by : (alone : Type 0) (confirmed missed : ℕ → Type 0) (m : Machine) (durable : Result Lsn Fault) (result : Forced) → IsForcedBy confirmed missed durable result → IfOk durable (λ lsn. alone → IsStableTo m lsn) → alone → IsStableIn result m
stable_by alone confirmed missed m durable (forced.Confirmed lsn) by s a =
    let at : IfOk {E = Fault} (Ok lsn) (λ (l : Lsn). alone → IsStableTo m l) = subst (λ (d : Result Lsn Fault). IfOk d (λ (l : Lsn). alone → IsStableTo m l)) by.0 s in
    at a
stable_by alone confirmed missed m durable forced.Unconfirmed by s a = tt
stable_by alone confirmed missed m durable (forced.Failed f) by s a = tt

-- ---- what is shown

pub grows_in : (result : Forced) (old new : Machine) → PublishesIn result old new → Grows old new
grows_in (forced.Confirmed lsn) old new p = p.grows
grows_in forced.Unconfirmed old new p = subst (λ (m : Machine). Grows old m) (sym p) (grows_refl old)
grows_in (forced.Failed f) old new p = subst (λ (m : Machine). Grows old m) (sym p) (grows_refl old)

pub same_in : (result : Forced) (old new : Machine) → PublishesIn result old new → new.held.log ≡ old.held.log
same_in (forced.Confirmed lsn) old new p = p.same
same_in forced.Unconfirmed old new p = ap (λ (m : Machine). m.held.log) p
same_in (forced.Failed f) old new p = ap (λ (m : Machine). m.held.log) p

pub stable_in : (result : Forced) (old new : Machine) → Grows old new → new.held.log ≡ old.held.log → IsStableIn result old → IsStableIn result new
stable_in (forced.Confirmed lsn) old new g same s = stable_on old new lsn g same s
stable_in forced.Unconfirmed old new g same s = tt
stable_in (forced.Failed f) old new g same s = tt

-- what was acknowledged is confirmed, and readers see no more
pub shown_publishes : (confirmed : ℕ → Type 0) (old new : Machine) (lsn : Lsn) → Publishes old new → lsn.0 ≡ acknowledged old.held → confirmed lsn.0 → IsShown confirmed old new
shown_publishes confirmed old new lsn p exact holds = elim p.published [
  | inl e ↦ inl e
  | inr e ↦ inr (lsn.0, holds, at_most e)
]
  where
    at_most : new.published ≡ acknowledged_in old → new.published ≤ ended_count lsn.0 (commits_of new.held.log)
    at_most e =
        let there : ended_count (acknowledged old.held) (commits_of old.held.log) ≡ ended_count lsn.0 (commits_of new.held.log) =
        ap (λ (n : ℕ). ended_count n (commits_of old.held.log)) (sym exact) ∙ ap (λ (l : List Record). ended_count lsn.0 (commits_of l)) (sym p.same) in
        omega (arith, e, there)

pub shown_in : (alone : Type 0) (confirmed confirmed_now missed : ℕ → Type 0) (old new : Machine) (durable : Result Lsn Fault) (result : Forced) → IsForcedBy confirmed missed durable result → ((n : ℕ) → confirmed n → confirmed_now n)
    → IfOk durable (λ lsn. alone → lsn.0 ≡ acknowledged old.held) → PublishesIn result old new → alone → IsShown confirmed_now old new
shown_in alone confirmed confirmed_now missed old new durable (forced.Confirmed lsn) by keeps exact p a =
    let at : IfOk {E = Fault} (Ok lsn) (λ (l : Lsn). alone → l.0 ≡ acknowledged old.held) = subst (λ (d : Result Lsn Fault). IfOk d (λ (l : Lsn). alone → l.0 ≡ acknowledged old.held)) by.0 exact in
    shown_publishes confirmed_now old new lsn p (at a) (keeps lsn.0 by.1)
shown_in alone confirmed confirmed_now missed old new durable forced.Unconfirmed by keeps exact p a = inl (ap (λ (m : Machine). m.published) p)
shown_in alone confirmed confirmed_now missed old new durable (forced.Failed f) by keeps exact p a = inl (ap (λ (m : Machine). m.published) p)

pub shown_refl : (confirmed : ℕ → Type 0) (m : Machine) → IsShown confirmed m m
shown_refl confirmed m = inl refl

-- readers saw the same first
pub shown_from : (confirmed : ℕ → Type 0) (old mid new : Machine) → mid.published ≡ old.published → IsShown confirmed mid new → IsShown confirmed old new
shown_from confirmed old mid new same s = elim s [
  | inl e ↦ inl (e ∙ same)
  | inr shown ↦ inr shown
]

-- the commits went on, and readers see the same
shown_on : (confirmed confirmed_now : ℕ → Type 0) (old mid new : Machine) (cs : List Commit) → commits_of new.held.log ≡ commits_of mid.held.log ++ cs → ((n : ℕ) → confirmed n → confirmed_now n) → new.published ≡ mid.published → IsShown confirmed old mid → IsShown confirmed_now old new
shown_on confirmed confirmed_now old mid new cs commits keeps same s = elim s [
  | inl e ↦ inl (same ∙ e)
  | inr shown ↦ inr (shown.0, keeps shown.0 shown.1, at_most shown.0 shown.2)
]
  where
    at_most : (end : ℕ) → mid.published ≤ ended_count end (commits_of mid.held.log) → new.published ≤ ended_count end (commits_of new.held.log)
    at_most end le =
        let there : ended_count end (commits_of new.held.log) ≡ ended_count end (commits_of mid.held.log) + ended_count end cs =
        ap (λ (c : List Commit). ended_count end c) commits ∙ ended_count-append end (commits_of mid.held.log) cs in
        omega (arith, same, le, there)

pub shown_both : (confirmed confirmed_now : ℕ → Type 0) (old mid new : Machine) (cs : List Commit) → commits_of new.held.log ≡ commits_of mid.held.log ++ cs → ((n : ℕ) → confirmed n → confirmed_now n) → IsShown confirmed old mid → IsShown confirmed_now mid new → IsShown confirmed_now old new
shown_both confirmed confirmed_now old mid new cs commits keeps p q = elim q [
  | inl same ↦ shown_on confirmed confirmed_now old mid new cs commits keeps same p
  | inr shown ↦ inr shown
]

pub shown_stays : (confirmed confirmed_now : ℕ → Type 0) (old mid new : Machine) → ((n : ℕ) → confirmed n → confirmed_now n) → IsShown confirmed old mid → Stays mid new → IsShown confirmed_now old new
shown_stays confirmed confirmed_now old mid new keeps p s =
    shown_on confirmed confirmed_now old mid new [] (ap (λ (l : List Record). commits_of l) s.same ∙ sym (append-nil (commits_of mid.held.log))) keeps s.published p

-- ---- what is confirmed of the answers

done_confirmed : (confirmed : ℕ → Type 0) (m : Machine) (asked : Work) (w : Written) → IsConfirmedTo confirmed w → IsConfirmedBy confirmed m asked (done_by asked w)
done_confirmed confirmed m (work.Commit t) w h = h
done_confirmed confirmed m (work.Prepare t) w h = h
done_confirmed confirmed m (work.Decide trans verdict) w h = h

if_confirmed : (confirmed : ℕ → Type 0) (m : Machine) (lsn : Lsn) (asked : Work) (w : Written) (b : Bool) → nat_le w.end.0 lsn.0 ≡ b → confirmed lsn.0 → IsConfirmedBy confirmed m asked (if b then done_by asked w else Unknown w)
if_confirmed confirmed m lsn asked w true e h = done_confirmed confirmed m asked w (lsn.0, leb-true w.end.0 lsn.0 e, h)
if_confirmed confirmed m lsn asked w false e h = tt

written_confirmed : (confirmed : ℕ → Type 0) (m : Machine) (result : Forced) → HoldsIn confirmed result → (asked : Work) (w : Written) → IsConfirmedBy confirmed m asked (written_after result asked w)
written_confirmed confirmed m (forced.Confirmed lsn) c asked w = if_confirmed confirmed m lsn asked w (nat_le w.end.0 lsn.0) refl c
written_confirmed confirmed m forced.Unconfirmed c asked w = tt
written_confirmed confirmed m (forced.Failed f) c asked w = tt

refused_to : (confirmed : ℕ → Type 0) (m : Machine) (lsn : Lsn) (asked : Work) (a : Answer) → IsStableTo m lsn → confirmed lsn.0 → WasRefused m asked a → IsRefusedBy confirmed m asked a
refused_to confirmed m lsn asked a s h w = record { was = w; end = lsn.0; reaches = omega (arith, grows_end w.after m w.goes_on, s.whole); stable = s.reaches; holds = h }

refused_confirmed : (confirmed : ℕ → Type 0) (m : Machine) (result : Forced) → IsStableIn result m → HoldsIn confirmed result → (asked : Work) (r : Refusal) → WasRefused m asked (Refused r) ⊎ IsEnded asked (Refused r) → IsConfirmedBy confirmed m asked (refused_after result r)
refused_confirmed confirmed m (forced.Confirmed lsn) s c asked r h = elim h [
  | inl was ↦ inl (refused_to confirmed m lsn asked (Refused r) s c was)
  | inr ended ↦ inr ended
]
refused_confirmed confirmed m forced.Unconfirmed s c asked r h = tt
refused_confirmed confirmed m (forced.Failed f) s c asked r h = inr (ended_refused m asked r f h)

undecided_confirmed : (confirmed : ℕ → Type 0) (m : Machine) (result : Forced) → IsStableIn result m → HoldsIn confirmed result → (asked : Work) (r : Undecided) → WasRefused m asked (NotDecided r) ⊎ IsEnded asked (NotDecided r) → IsConfirmedBy confirmed m asked (undecided_after result r)
undecided_confirmed confirmed m (forced.Confirmed lsn) s c asked r h = elim h [
  | inl was ↦ inl (refused_to confirmed m lsn asked (NotDecided r) s c was)
  | inr ended ↦ inr ended
]
undecided_confirmed confirmed m forced.Unconfirmed s c asked r h = tt
undecided_confirmed confirmed m (forced.Failed f) s c asked r h = inr (ended_undecided m asked r f h)

pub confirmed_after : (confirmed : ℕ → Type 0) (m : Machine) (result : Forced) → IsStableIn result m → HoldsIn confirmed result → (asked : Work) (a : Answer) → IsHeld m asked a → IsConfirmedBy confirmed m asked (answer_after result asked a)
confirmed_after confirmed m result s c asked (Committed w) h = written_confirmed confirmed m result c asked w
confirmed_after confirmed m result s c asked (Prepared w) h = written_confirmed confirmed m result c asked w
confirmed_after confirmed m result s c asked (Decided w) h = written_confirmed confirmed m result c asked w
confirmed_after confirmed m result s c asked (Unknown w) h = written_confirmed confirmed m result c asked w
confirmed_after confirmed m result s c asked (Refused r) h = refused_confirmed confirmed m result s c asked r h
confirmed_after confirmed m result s c asked (NotDecided r) h = undecided_confirmed confirmed m result s c asked r h
confirmed_after confirmed m result s c asked Withheld h = tt

all_confirmed_after : (confirmed : ℕ → Type 0) (m : Machine) (result : Forced) → IsStableIn result m → HoldsIn confirmed result → (told : List Told) → AllByRecursion (IsHeldOf m) told → AllByRecursion (IsConfirmedOf confirmed m) (all_after result told)
all_confirmed_after confirmed m result s c [] h = tt
all_confirmed_after confirmed m result s c (x ∷ xs) h = (confirmed_after confirmed m result s c x.asked.work x.answer h.0, all_confirmed_after confirmed m result s c xs h.1)

pub confirmed_group : (confirmed : ℕ → Type 0) (m : Machine) (result : Forced) (told told_now queued : List Told) → IsStableIn result m → HoldsIn confirmed result → AllByRecursion (IsHeldOf m) queued → told_now ≡ told ++ all_after result queued → AllTold (IsConfirmedOf confirmed m) told told_now
confirmed_group confirmed m result told told_now queued s c h tells = record { more = all_after result queued; answered = tells; each = all_confirmed_after confirmed m result s c queued h }

-- what is confirmed stays so
refused_on : (confirmed confirmed_now : ℕ → Type 0) (mid new : Machine) (asked : Work) (a : Answer) → Grows mid new → ((n : ℕ) → confirmed n → confirmed_now n) → IsRefusedBy confirmed mid asked a → IsRefusedBy confirmed_now new asked a
refused_on confirmed confirmed_now mid new asked a g keeps i =
    let reaches : end_of i.was.after.held.log ≤ i.end = i.reaches in
    record {
      was = was_on mid new asked a g i.was;
      end = i.end;
      reaches = reaches;
      stable = omega (arith, i.stable, g.acknowledged);
      holds = keeps i.end i.holds;
    }

to_on : (confirmed confirmed_now : ℕ → Type 0) (w : Written) → ((n : ℕ) → confirmed n → confirmed_now n) → IsConfirmedTo confirmed w → IsConfirmedTo confirmed_now w
to_on confirmed confirmed_now w keeps h = (h.0, h.1, keeps h.0 h.2)

confirmed_on : (confirmed confirmed_now : ℕ → Type 0) (mid new : Machine) (asked : Work) (a : Answer) → Grows mid new → ((n : ℕ) → confirmed n → confirmed_now n) → IsConfirmedBy confirmed mid asked a → IsConfirmedBy confirmed_now new asked a
confirmed_on confirmed confirmed_now mid new asked (Committed w) g keeps h = to_on confirmed confirmed_now w keeps h
confirmed_on confirmed confirmed_now mid new asked (Prepared w) g keeps h = to_on confirmed confirmed_now w keeps h
confirmed_on confirmed confirmed_now mid new asked (Decided w) g keeps h = to_on confirmed confirmed_now w keeps h
confirmed_on confirmed confirmed_now mid new asked (Unknown w) g keeps h = tt
confirmed_on confirmed confirmed_now mid new asked Withheld g keeps h = tt
confirmed_on confirmed confirmed_now mid new asked (Refused r) g keeps h = elim h [
  | inl by ↦ inl (refused_on confirmed confirmed_now mid new asked (Refused r) g keeps by)
  | inr ended ↦ inr ended
]
confirmed_on confirmed confirmed_now mid new asked (NotDecided r) g keeps h = elim h [
  | inl by ↦ inl (refused_on confirmed confirmed_now mid new asked (NotDecided r) g keeps by)
  | inr ended ↦ inr ended
]

pub told_confirmed_on : (confirmed confirmed_now : ℕ → Type 0) (mid new : Machine) (told told_now : List Told) → Grows mid new → ((n : ℕ) → confirmed n → confirmed_now n) → AllTold (IsConfirmedOf confirmed mid) told told_now → AllTold (IsConfirmedOf confirmed_now new) told told_now
told_confirmed_on confirmed confirmed_now mid new told told_now g keeps t =
    told_map (IsConfirmedOf confirmed mid) (IsConfirmedOf confirmed_now new) told told_now (λ x h. confirmed_on confirmed confirmed_now mid new x.asked.work x.answer g keeps h) t

pub told_confirmed_both : (confirmed confirmed_now : ℕ → Type 0) (mid new : Machine) (told told_mid told_now : List Told) → Grows mid new → ((n : ℕ) → confirmed n → confirmed_now n) → AllTold (IsConfirmedOf confirmed mid) told told_mid → AllTold (IsConfirmedOf confirmed_now new) told_mid told_now
    → AllTold (IsConfirmedOf confirmed_now new) told told_now
told_confirmed_both confirmed confirmed_now mid new told told_mid told_now g keeps p q =
    told_both (IsConfirmedOf confirmed mid) (IsConfirmedOf confirmed_now new) told told_mid told_now (λ x h. confirmed_on confirmed confirmed_now mid new x.asked.work x.answer g keeps h) p q

-- ---- no answer is for the end of the leader

carried_done : (missed : ℕ → Type 0) (asked : Work) (w : Written) → IsCarried missed (done_by asked w)
carried_done missed (work.Commit t) w = tt
carried_done missed (work.Prepare t) w = tt
carried_done missed (work.Decide trans verdict) w = tt

carried_if : (missed : ℕ → Type 0) (asked : Work) (w : Written) (b : Bool) → IsCarried missed (if b then done_by asked w else Unknown w)
carried_if missed asked w true = carried_done missed asked w
carried_if missed asked w false = tt

carried_written : (missed : ℕ → Type 0) (result : Forced) (asked : Work) (w : Written) → IsCarried missed (written_after result asked w)
carried_written missed (forced.Confirmed lsn) asked w = carried_if missed asked w (nat_le w.end.0 lsn.0)
carried_written missed forced.Unconfirmed asked w = tt
carried_written missed (forced.Failed f) asked w = tt

carried_refused : (missed : ℕ → Type 0) (result : Forced) → GoesOn result → MissesIn missed result → (r : Refusal) → IsForCause r → IsCarried missed (refused_after result r)
carried_refused missed (forced.Confirmed lsn) g m r h = h
carried_refused missed forced.Unconfirmed g m r h = m
carried_refused missed (forced.Failed f) g m r h = absurd g

carried_undecided : (missed : ℕ → Type 0) (result : Forced) → GoesOn result → MissesIn missed result → (r : Undecided) → IsOpenForCause r → IsCarried missed (undecided_after result r)
carried_undecided missed (forced.Confirmed lsn) g m r h = h
carried_undecided missed forced.Unconfirmed g m r h = m
carried_undecided missed (forced.Failed f) g m r h = absurd g

carried_after : (missed : ℕ → Type 0) (result : Forced) → GoesOn result → MissesIn missed result → (asked : Work) (a : Answer) → IsBegun a → IsCarried missed (answer_after result asked a)
carried_after missed result g m asked (Committed w) h = absurd h
carried_after missed result g m asked (Prepared w) h = absurd h
carried_after missed result g m asked (Decided w) h = absurd h
carried_after missed result g m asked (Unknown w) h = carried_written missed result asked w
carried_after missed result g m asked (Refused r) h = carried_refused missed result g m r h
carried_after missed result g m asked (NotDecided r) h = carried_undecided missed result g m r h
carried_after missed result g m asked Withheld h = absurd h

all_carried_after : (missed : ℕ → Type 0) (result : Forced) → GoesOn result → MissesIn missed result → (told : List Told) → AllByRecursion IsBegunOf told → AllByRecursion (IsCarriedOut missed) (all_after result told)
all_carried_after missed result g m [] h = tt
all_carried_after missed result g m (x ∷ xs) h = (carried_after missed result g m x.asked.work x.answer h.0, all_carried_after missed result g m xs h.1)

pub works_group : (missed : ℕ → Type 0) (result : Forced) (told told_now queued : List Told) → GoesOn result → MissesIn missed result → AllTold IsBegunOf [] queued → told_now ≡ told ++ all_after result queued → AllTold (IsCarriedOut missed) told told_now
works_group missed result told told_now queued g m b tells =
    let joined : queued ≡ b.more = b.answered in
    record { more = all_after result queued; answered = tells; each = all_carried_after missed result g m queued (subst (λ (q : List Told). AllByRecursion IsBegunOf q) (sym joined) b.each) }

carried_on : (missed missed_now : ℕ → Type 0) (a : Answer) → ((n : ℕ) → missed n → missed_now n) → IsCarried missed a → IsCarried missed_now a
carried_on missed missed_now (Committed w) keeps h = tt
carried_on missed missed_now (Prepared w) keeps h = tt
carried_on missed missed_now (Decided w) keeps h = tt
carried_on missed missed_now (Unknown w) keeps h = tt
carried_on missed missed_now (Refused r) keeps h = h
carried_on missed missed_now (NotDecided r) keeps h = h
carried_on missed missed_now Withheld keeps h = (h.0, keeps h.0 h.1)

pub told_works_on : (missed missed_now : ℕ → Type 0) (told told_now : List Told) → ((n : ℕ) → missed n → missed_now n) → AllTold (IsCarriedOut missed) told told_now → AllTold (IsCarriedOut missed_now) told told_now
told_works_on missed missed_now told told_now keeps t =
    told_map (IsCarriedOut missed) (IsCarriedOut missed_now) told told_now (λ x h. carried_on missed missed_now x.answer keeps h) t

pub told_works_both : (missed missed_now : ℕ → Type 0) (told told_mid told_now : List Told) → ((n : ℕ) → missed n → missed_now n) → AllTold (IsCarriedOut missed) told told_mid → AllTold (IsCarriedOut missed_now) told_mid told_now → AllTold (IsCarriedOut missed_now) told told_now
told_works_both missed missed_now told told_mid told_now keeps p q =
    told_both (IsCarriedOut missed) (IsCarriedOut missed_now) told told_mid told_now (λ x h. carried_on missed missed_now x.answer keeps h) p q
