-- When it is unknown whether what is written stays.
use Rattle.std.proofs.Common.{◌≡◌, ◌<◌, ◌≤◌, ℕ, Bool, true, false, List, [], ◌∷◌, ◌++◌, refl, sym, ap, subst, ◌∙◌, inl, inr, arith, append_assoc}
use Rattle.std.specs.Prelude.{nat_le, if◌then◌else◌}
use Rattle.std.specs.List.{AllByRecursion}
use Rattle.std.proofs.lemmas.Bool.{leb-false}
use Rattle.als_record.specs.declared.lsn.Lsn.{Lsn}
use Rattle.als_record.specs.declared.record.Record.{Record}
use Rattle.als_record.specs.declared.trans_id.TransId.{TransId}
use Rattle.als_record.specs.LogText.{end_of}
use Rattle.als_record.proofs.PageLaws.{end_of-append}
use Rattle.als_writing.specs.Writing.{prepared}
use Rattle.als_store.specs.declared.decision.Decision.{Decision}
use Rattle.als_engine.specs.Machine.{Machine}
use Rattle.als_writer.specs.Deciding.{deciding}
use Rattle.als_writer.specs.declared.not_decided.NotDecided.{NotDecided as Undecided}
use Rattle.als_writer.specs.declared.refusal.Refusal.{Refusal}
use Rattle.als_writer.specs.declared.transaction.Transaction.{Transaction}
use Rattle.als_writer.specs.declared.work.Work.{Work}
use Rattle.als_writer.specs.declared.work.Work.TheVariants as work
use Rattle.als_writer.specs.declared.written.Written.{Written}
use Rattle.als_lead.specs.declared.answer.Answer.{Answer}
use Rattle.als_lead.specs.declared.answer.Answer.TheVariants.{Committed, Prepared, Decided, Refused, NotDecided, Unknown, Withheld}
use Rattle.als_lead.specs.declared.forced.Forced.{Forced}
use Rattle.als_lead.specs.declared.forced.Forced.TheVariants as forced
use Rattle.als_lead.specs.declared.told.Told.{Told}
use Rattle.als_lead.specs.Going.{Grows}
use Rattle.als_lead.specs.Answers.{IsPreparedIn, IsDecidedIn, IsWritten}
use Rattle.als_lead.specs.Groups.{IsHeld, IsHeldOf, IsStableTo, IsStableIn, done_by, written_after, refused_after, undecided_after, answer_after, all_after}
use Rattle.als_lead.specs.Leading.{AllTold}
use Rattle.als_lead.specs.Confirming.{GoesOn, IsBegun, IsBegunOf, IsDoubted, IsExcused, IsExcusedOf}
use Rattle.als_lead.proofs.Going.{grows_refl, grows_trans}
use Rattle.als_lead.proofs.Confirms.{MissesIn, told_map, told_both}

-- ---- what is prepared or decided is in the log to its end

front_end : (log front rest : List Record) → log ≡ front ++ rest → end_of front ≤ end_of log
front_end log front rest e = omega (arith, ap (λ (l : List Record). end_of l) e, end_of-append front rest)

prepared_end : (m : Machine) (t : Transaction) (w : Written) → IsPreparedIn m t w → w.end.0 ≤ end_of m.held.log
prepared_end m t w p = omega (arith, p.end, front_end m.held.log (p.past ++ prepared p.past w.trans.0 t.sets.items) p.rest p.log)

decided_end : (m : Machine) (trans : TransId) (verdict : Decision) (w : Written) → IsDecidedIn m trans verdict w → w.end.0 ≤ end_of m.held.log
decided_end m trans verdict w d =
    let one : List Record = deciding d.past trans verdict ∷ [] in
    let log : m.held.log ≡ (d.past ++ one) ++ d.rest = d.log ∙ sym (append_assoc d.past one d.rest) in
    omega (arith, d.end, front_end m.held.log (d.past ++ one) d.rest log)

-- ---- what the force makes of it

excused_done : {E : Type 0} → (missed : ℕ → Type 0) (machine : E → Machine) (m : Machine) (asked : Work) (w : Written) → IsExcused missed machine m asked (done_by asked w)
excused_done missed machine m (work.Commit t) w = tt
excused_done missed machine m (work.Prepare t) w = tt
excused_done missed machine m (work.Decide trans verdict) w = tt

-- where the log is stable to below its end, only the end of a commit can be owed
doubted_short : {E : Type 0} → (missed : ℕ → Type 0) (machine : E → Machine) (e : E) (lsn : Lsn) (asked : Work) (w : Written) → lsn.0 < w.end.0
    → IsStableTo (machine e) lsn → IsWritten (machine e) asked w → IsDoubted missed machine (machine e) asked w
doubted_short missed machine e lsn (work.Commit t) w lt s h =
    let whole = s.whole in
    let reaches = s.reaches in
    inr record { engine = e; goes_on = grows_refl (machine e); in_log = h; forced = omega arith; short = omega arith }
doubted_short missed machine e lsn (work.Prepare t) w lt s h = absurd (omega (arith, lt, s.whole, prepared_end (machine e) t w h))
doubted_short missed machine e lsn (work.Decide trans verdict) w lt s h = absurd (omega (arith, lt, s.whole, decided_end (machine e) trans verdict w h))

pub excused_if : {E : Type 0} → (missed : ℕ → Type 0) (machine : E → Machine) (e : E) (lsn : Lsn) (asked : Work) (w : Written) (b : Bool) → nat_le w.end.0 lsn.0 ≡ b
    → IsStableTo (machine e) lsn → IsWritten (machine e) asked w → IsExcused missed machine (machine e) asked (if b then done_by asked w else Unknown w)
excused_if missed machine e lsn asked w true le s h = excused_done missed machine (machine e) asked w
excused_if missed machine e lsn asked w false le s h = doubted_short missed machine e lsn asked w (leb-false w.end.0 lsn.0 le) s h

pub doubted_missed : {E : Type 0} → (missed : ℕ → Type 0) (machine : E → Machine) (m : Machine) (asked : Work) (w : Written) → ((end : ℕ) × missed end) → IsDoubted missed machine m asked w
doubted_missed missed machine m (work.Commit t) w h = inl h
doubted_missed missed machine m (work.Prepare t) w h = h
doubted_missed missed machine m (work.Decide trans verdict) w h = h

excused_written : {E : Type 0} → (missed : ℕ → Type 0) (machine : E → Machine) (e : E) (result : Forced) → GoesOn result → MissesIn missed result → IsStableIn result (machine e)
    → (asked : Work) (w : Written) → IsWritten (machine e) asked w → IsExcused missed machine (machine e) asked (written_after result asked w)
excused_written missed machine e (forced.Confirmed lsn) g m s asked w h = excused_if missed machine e lsn asked w (nat_le w.end.0 lsn.0) refl s h
excused_written missed machine e forced.Unconfirmed g m s asked w h = doubted_missed missed machine (machine e) asked w m
excused_written missed machine e (forced.Failed f) g m s asked w h = absurd g

excused_refused : {E : Type 0} → (missed : ℕ → Type 0) (machine : E → Machine) (m : Machine) (result : Forced) (asked : Work) (r : Refusal) → IsExcused missed machine m asked (refused_after result r)
excused_refused missed machine m (forced.Confirmed lsn) asked r = tt
excused_refused missed machine m forced.Unconfirmed asked r = tt
excused_refused missed machine m (forced.Failed f) asked r = tt

excused_undecided : {E : Type 0} → (missed : ℕ → Type 0) (machine : E → Machine) (m : Machine) (result : Forced) (asked : Work) (r : Undecided) → IsExcused missed machine m asked (undecided_after result r)
excused_undecided missed machine m (forced.Confirmed lsn) asked r = tt
excused_undecided missed machine m forced.Unconfirmed asked r = tt
excused_undecided missed machine m (forced.Failed f) asked r = tt

excused_after : {E : Type 0} → (missed : ℕ → Type 0) (machine : E → Machine) (e : E) (result : Forced) → GoesOn result → MissesIn missed result → IsStableIn result (machine e)
    → (asked : Work) (a : Answer) → IsBegun a → IsHeld (machine e) asked a → IsExcused missed machine (machine e) asked (answer_after result asked a)
excused_after missed machine e result g m s asked (Committed w) b h = absurd b
excused_after missed machine e result g m s asked (Prepared w) b h = absurd b
excused_after missed machine e result g m s asked (Decided w) b h = absurd b
excused_after missed machine e result g m s asked (Unknown w) b h = excused_written missed machine e result g m s asked w h
excused_after missed machine e result g m s asked (Refused r) b h = excused_refused missed machine (machine e) result asked r
excused_after missed machine e result g m s asked (NotDecided r) b h = excused_undecided missed machine (machine e) result asked r
excused_after missed machine e result g m s asked Withheld b h = absurd b

all_excused_after : {E : Type 0} → (missed : ℕ → Type 0) (machine : E → Machine) (e : E) (result : Forced) → GoesOn result → MissesIn missed result → IsStableIn result (machine e)
    → (told : List Told) → AllByRecursion IsBegunOf told → AllByRecursion (IsHeldOf (machine e)) told → AllByRecursion (IsExcusedOf missed machine (machine e)) (all_after result told)
all_excused_after missed machine e result g m s [] b h = tt
all_excused_after missed machine e result g m s (x ∷ xs) b h = (excused_after missed machine e result g m s x.asked.work x.answer b.0 h.0, all_excused_after missed machine e result g m s xs b.1 h.1)

pub excused_group : {E : Type 0} → (missed : ℕ → Type 0) (machine : E → Machine) (e : E) (result : Forced) (told told_now queued : List Told) → GoesOn result → MissesIn missed result
    → IsStableIn result (machine e) → AllTold IsBegunOf [] queued → AllByRecursion (IsHeldOf (machine e)) queued → told_now ≡ told ++ all_after result queued
    → AllTold (IsExcusedOf missed machine (machine e)) told told_now
excused_group missed machine e result told told_now queued g m s b h tells =
    let joined : queued ≡ b.more = b.answered in
    record {
      more = all_after result queued;
      answered = tells;
      each = all_excused_after missed machine e result g m s queued (subst (λ (q : List Told). AllByRecursion IsBegunOf q) (sym joined) b.each) h;
    }

-- ---- an excuse stays one

doubted_on : {E : Type 0} → (missed missed_now : ℕ → Type 0) (machine : E → Machine) (mid new : Machine) (asked : Work) (w : Written) → Grows mid new → ((n : ℕ) → missed n → missed_now n)
    → IsDoubted missed machine mid asked w → IsDoubted missed_now machine new asked w
doubted_on missed missed_now machine mid new (work.Commit t) w g keeps h = elim h [
  | inl was ↦ inl (was.0, keeps was.0 was.1)
  | inr owed ↦ inr record {
    engine = owed.engine;
    goes_on = grows_trans (machine owed.engine) mid new owed.goes_on g;
    in_log = owed.in_log;
    forced = owed.forced;
    short = owed.short;
  }
]
doubted_on missed missed_now machine mid new (work.Prepare t) w g keeps h = (h.0, keeps h.0 h.1)
doubted_on missed missed_now machine mid new (work.Decide trans verdict) w g keeps h = (h.0, keeps h.0 h.1)

excused_on : {E : Type 0} → (missed missed_now : ℕ → Type 0) (machine : E → Machine) (mid new : Machine) (asked : Work) (a : Answer) → Grows mid new → ((n : ℕ) → missed n → missed_now n)
    → IsExcused missed machine mid asked a → IsExcused missed_now machine new asked a
excused_on missed missed_now machine mid new asked (Unknown w) g keeps h = doubted_on missed missed_now machine mid new asked w g keeps h
excused_on missed missed_now machine mid new asked (Committed w) g keeps h = tt
excused_on missed missed_now machine mid new asked (Prepared w) g keeps h = tt
excused_on missed missed_now machine mid new asked (Decided w) g keeps h = tt
excused_on missed missed_now machine mid new asked (Refused r) g keeps h = tt
excused_on missed missed_now machine mid new asked (NotDecided r) g keeps h = tt
excused_on missed missed_now machine mid new asked Withheld g keeps h = tt

pub told_excused_on : {E : Type 0} → (missed missed_now : ℕ → Type 0) (machine : E → Machine) (mid new : Machine) (told told_now : List Told) → Grows mid new → ((n : ℕ) → missed n → missed_now n)
    → AllTold (IsExcusedOf missed machine mid) told told_now → AllTold (IsExcusedOf missed_now machine new) told told_now
told_excused_on missed missed_now machine mid new told told_now g keeps t =
    told_map (IsExcusedOf missed machine mid) (IsExcusedOf missed_now machine new) told told_now (λ x h. excused_on missed missed_now machine mid new x.asked.work x.answer g keeps h) t

pub told_excused_both : {E : Type 0} → (missed missed_now : ℕ → Type 0) (machine : E → Machine) (mid new : Machine) (told told_mid told_now : List Told) → Grows mid new
    → ((n : ℕ) → missed n → missed_now n) → AllTold (IsExcusedOf missed machine mid) told told_mid → AllTold (IsExcusedOf missed_now machine new) told_mid told_now
    → AllTold (IsExcusedOf missed_now machine new) told told_now
told_excused_both missed missed_now machine mid new told told_mid told_now g keeps p q =
    told_both (IsExcusedOf missed machine mid) (IsExcusedOf missed_now machine new) told told_mid told_now (λ x h. excused_on missed missed_now machine mid new x.asked.work x.answer g keeps h) p q
