-- What enough others hold of the log, and what of it is answered and shown.
use Rattle.std.specs.Prelude.{◌≡◌, ℕ, ◌<◌, ◌≤◌, ◌⊎◌, Result, Ok, Err}
use Rattle.als_record.specs.declared.lsn.Lsn.{Lsn}
use Rattle.als_record.specs.LogText.{end_of}
use Rattle.als_record.specs.Commits.{commits_of}
use Rattle.als_commits.specs.Counting.{ended_count}
use Rattle.als_store.specs.Stored.{acknowledged}
use Rattle.als_engine.specs.declared.fault.Fault.{Fault}
use Rattle.als_engine.specs.Machine.{Machine}
use Rattle.als_writer.specs.declared.not_decided.NotDecided.{NotDecided as Undecided}
use Rattle.als_writer.specs.declared.not_decided.NotDecided.TheVariants as undecided
use Rattle.als_writer.specs.declared.refusal.Refusal.{Refusal}
use Rattle.als_writer.specs.declared.refusal.Refusal.TheVariants as refusal
use Rattle.als_writer.specs.declared.transaction.Transaction.{Transaction}
use Rattle.als_writer.specs.declared.work.Work.{Work}
use Rattle.als_writer.specs.declared.work.Work.TheVariants as work
use Rattle.als_writer.specs.declared.written.Written.{Written}
use Rattle.als_lead.specs.declared.answer.Answer.{Answer}
use Rattle.als_lead.specs.declared.answer.Answer.TheVariants.{Committed, Prepared, Decided, Refused, NotDecided, Unknown, Withheld}
use Rattle.als_lead.specs.declared.forced.Forced.{Forced}
use Rattle.als_lead.specs.declared.forced.Forced.TheVariants as forced
use Rattle.als_lead.specs.declared.told.Told.{Told}
use Rattle.als_lead.specs.Going.{Grows, Publishes}
use Rattle.als_lead.specs.Answers.{IsIn, WasRefused, IsEnded}

-- ---- the log

-- all of the log is confirmed
pub record IsWhole (confirmed : ℕ → Type 0) (m : Machine) : Type 0 where
  pub end : ℕ
  pub reaches : end_of m.held.log ≤ end
  pub holds : confirmed end

-- what a force and its confirmation came to: the log is confirmed up to where it was forced, or that was missed, or something failed
abbrev pub IsForcedBy : (ℕ → Type 0) → (ℕ → Type 0) → Result Lsn Fault → Forced → Type 0
IsForcedBy confirmed missed durable (forced.Confirmed lsn) = (durable ≡ Ok lsn) × confirmed lsn.0
IsForcedBy confirmed missed durable forced.Unconfirmed = (end : ℕ) × missed end
IsForcedBy confirmed missed durable (forced.Failed f) = Unit {0}

-- where one of them failed, the force did, or the confirmation
abbrev pub IsFailedBy : (Fault → Type 0) → Result Lsn Fault → Forced → Type 0
IsFailedBy failed durable (forced.Confirmed lsn) = Unit {0}
IsFailedBy failed durable forced.Unconfirmed = Unit {0}
IsFailedBy failed durable (forced.Failed f) = (durable ≡ Err f) ⊎ failed f

-- neither the force nor the confirmation failed
abbrev pub GoesOn : Forced → Type 0
GoesOn (forced.Confirmed lsn) = Unit {0}
GoesOn forced.Unconfirmed = Unit {0}
GoesOn (forced.Failed f) = ⊥

-- ---- what readers see

-- what is acknowledged of a log is confirmed, so it may be shown
abbrev pub IsShowable : Type 0 → (ℕ → Type 0) → Machine → Forced → Type 0
IsShowable alone confirmed m (forced.Confirmed lsn) = alone → confirmed (acknowledged m.held)
IsShowable alone confirmed m forced.Unconfirmed = Unit {0}
IsShowable alone confirmed m (forced.Failed f) = Unit {0}

-- only a log that is confirmed is shown
abbrev pub PublishesIn : Forced → Machine → Machine → Type 0
PublishesIn (forced.Confirmed lsn) old new = Publishes old new
PublishesIn forced.Unconfirmed old new = new ≡ old
PublishesIn (forced.Failed f) old new = new ≡ old

-- readers see what they saw, or no commit that ends above an offset which is confirmed
abbrev pub IsShown : (ℕ → Type 0) → Machine → Machine → Type 0
IsShown confirmed old new =
    (new.published ≡ old.published)
    ⊎ ((end : ℕ) × confirmed end × (new.published ≤ ended_count end (commits_of new.held.log)))

-- ---- what is answered

-- what was asked for was refused by a log that is confirmed and acknowledged
pub record IsRefusedBy (confirmed : ℕ → Type 0) (m : Machine) (asked : Work) (answer : Answer) : Type 0 where
  pub was : WasRefused m asked answer
  pub end : ℕ
  pub reaches : end_of was.after.held.log ≤ end
  pub stable : end ≤ acknowledged m.held
  pub holds : confirmed end

-- what is done ends at or below an offset that is confirmed
abbrev pub IsConfirmedTo : (ℕ → Type 0) → Written → Type 0
IsConfirmedTo confirmed w = (end : ℕ) × (w.end.0 ≤ end) × confirmed end

-- What is done ends at or below an offset that is confirmed, and what refused another work does. Where the leader has ended nothing is said,
-- nor of what is not known or withheld.
abbrev pub IsConfirmedBy : (ℕ → Type 0) → Machine → Work → Answer → Type 0
IsConfirmedBy confirmed m asked (Committed w) = IsConfirmedTo confirmed w
IsConfirmedBy confirmed m asked (Prepared w) = IsConfirmedTo confirmed w
IsConfirmedBy confirmed m asked (Decided w) = IsConfirmedTo confirmed w
IsConfirmedBy confirmed m asked (Refused r) = IsRefusedBy confirmed m asked (Refused r) ⊎ IsEnded asked (Refused r)
IsConfirmedBy confirmed m asked (NotDecided r) = IsRefusedBy confirmed m asked (NotDecided r) ⊎ IsEnded asked (NotDecided r)
IsConfirmedBy confirmed m asked (Unknown w) = Unit {0}
IsConfirmedBy confirmed m asked Withheld = Unit {0}

abbrev pub IsConfirmedOf : (ℕ → Type 0) → Machine → Told → Type 0
IsConfirmedOf confirmed m told = IsConfirmedBy confirmed m told.asked.work told.answer

-- a refusal is not for the end of the leader
abbrev pub IsForCause : Refusal → Type 0
IsForCause (refusal.State f) = ⊥
IsForCause _ = Unit {0}

abbrev pub IsOpenForCause : Undecided → Type 0
IsOpenForCause (undecided.State f) = ⊥
IsOpenForCause _ = Unit {0}

-- what is answered before a force: written or not
abbrev pub IsTried : Answer → Type 0
IsTried (Refused r) = Unit {0}
IsTried (NotDecided r) = Unit {0}
IsTried (Unknown w) = Unit {0}
IsTried _ = ⊥

-- the same, and not for the end of the leader
abbrev pub IsBegun : Answer → Type 0
IsBegun (Refused r) = IsForCause r
IsBegun (NotDecided r) = IsOpenForCause r
IsBegun (Unknown w) = Unit {0}
IsBegun _ = ⊥

abbrev pub IsTriedOf : Told → Type 0
IsTriedOf told = IsTried told.answer

abbrev pub IsBegunOf : Told → Type 0
IsBegunOf told = IsBegun told.answer

-- an answer is not for the end of the leader, and withheld only where a confirmation was missed
abbrev pub IsCarried : (ℕ → Type 0) → Answer → Type 0
IsCarried missed (Refused r) = IsForCause r
IsCarried missed (NotDecided r) = IsOpenForCause r
IsCarried missed Withheld = (end : ℕ) × missed end
IsCarried missed _ = Unit {0}

abbrev pub IsCarriedOut : (ℕ → Type 0) → Told → Type 0
IsCarriedOut missed told = IsCarried missed told.answer

-- The end of a commit was owed: in an engine that this one goes on from, the commit was in the log and all of the log was acknowledged, and the
-- transaction's last record was not in it.
pub record IsOwed (E : Type 0) (machine : E → Machine) (m : Machine) (t : Transaction) (w : Written) : Type 0 where
  pub engine : E
  pub goes_on : Grows (machine engine) m
  pub in_log : IsIn (machine engine) t w
  pub forced : end_of (machine engine).held.log ≤ acknowledged (machine engine).held
  pub short : end_of (machine engine).held.log < w.end.0

-- why it is not known whether what is written stays: a confirmation was missed, or the end of a commit was owed
abbrev pub IsDoubted : {E : Type 0} → (ℕ → Type 0) → (E → Machine) → Machine → Work → Written → Type 0
IsDoubted {E} missed machine m (work.Commit t) w = ((end : ℕ) × missed end) ⊎ IsOwed E machine m t w
IsDoubted missed machine m (work.Prepare t) w = (end : ℕ) × missed end
IsDoubted missed machine m (work.Decide trans verdict) w = (end : ℕ) × missed end

-- only so is an answer that it is not known
abbrev pub IsExcused : {E : Type 0} → (ℕ → Type 0) → (E → Machine) → Machine → Work → Answer → Type 0
IsExcused missed machine m asked (Unknown w) = IsDoubted missed machine m asked w
IsExcused missed machine m asked _ = Unit {0}

abbrev pub IsExcusedOf : {E : Type 0} → (ℕ → Type 0) → (E → Machine) → Machine → Told → Type 0
IsExcusedOf missed machine m told = IsExcused missed machine m told.asked.work told.answer
