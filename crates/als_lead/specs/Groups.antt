-- A group before its force, and what the force makes of its answers.
use Rattle.std.specs.Prelude.{◌≡◌, ◌≤◌, ◌⊎◌, nat_le, false, if◌then◌else◌, List, [], ◌++◌, map}
use Rattle.std.specs.List.{AllByRecursion}
use Rattle.als_record.specs.declared.lsn.Lsn.{Lsn}
use Rattle.als_record.specs.declared.record.Record.{Record}
use Rattle.als_record.specs.LogText.{end_of}
use Rattle.als_record.specs.Commits.{Commit, commits_of}
use Rattle.als_store.specs.Stored.{acknowledged}
use Rattle.als_engine.specs.declared.fault.Fault.{Fault}
use Rattle.als_engine.specs.Machine.{Machine}
use Rattle.als_writer.specs.declared.not_decided.NotDecided.{NotDecided as Undecided}
use Rattle.als_writer.specs.declared.not_decided.NotDecided.TheVariants as undecided
use Rattle.als_writer.specs.declared.refusal.Refusal.{Refusal}
use Rattle.als_writer.specs.declared.refusal.Refusal.TheVariants as refusal
use Rattle.als_writer.specs.declared.work.Work.{Work}
use Rattle.als_writer.specs.declared.work.Work.TheVariants as work
use Rattle.als_writer.specs.declared.written.Written.{Written}
use Rattle.als_lead.specs.declared.asked.Asked.{Asked}
use Rattle.als_lead.specs.declared.answer.Answer.{Answer}
use Rattle.als_lead.specs.declared.answer.Answer.TheVariants.{Committed, Prepared, Decided, Refused, NotDecided, Unknown, Withheld}
use Rattle.als_lead.specs.declared.forced.Forced.{Forced}
use Rattle.als_lead.specs.declared.forced.Forced.TheVariants.{Failed, Unconfirmed, Confirmed}
use Rattle.als_lead.specs.declared.told.Told.{Told}
use Rattle.als_lead.specs.Going.{Grows}
use Rattle.als_lead.specs.Answers.{IsWritten, IsFor, AddsBy, Adds, WasRefused, IsEnded, asked_of}

-- an answer is true of what a machine holds, whatever of it is acknowledged
abbrev pub IsHeld : Machine → Work → Answer → Type 0
IsHeld m asked (Committed w) = IsFor asked (Committed w) × IsWritten m asked w
IsHeld m asked (Prepared w) = IsFor asked (Prepared w) × IsWritten m asked w
IsHeld m asked (Decided w) = IsFor asked (Decided w) × IsWritten m asked w
IsHeld m asked (Refused r) = WasRefused m asked (Refused r) ⊎ IsEnded asked (Refused r)
IsHeld m asked (NotDecided r) = WasRefused m asked (NotDecided r) ⊎ IsEnded asked (NotDecided r)
IsHeld m asked (Unknown w) = IsWritten m asked w
IsHeld m asked Withheld = Unit {0}

abbrev pub IsHeldOf : Machine → Told → Type 0
IsHeldOf m told = IsHeld m told.asked.work told.answer

-- what one work makes of a machine
pub record Does (old : Machine) (asked : Work) (answer : Answer) (new : Machine) : Type 0 where
  pub grows : Grows old new
  pub added : List Commit
  pub commits : commits_of new.held.log ≡ commits_of old.held.log ++ added
  pub adds : AddsBy new.held.log asked answer added
  pub held : IsHeld new asked answer
  pub published : new.published ≡ old.published

-- a transaction is refused, or a decision, before anything of it was begun
abbrev pub IsUnwritten : Refusal → Type 0
IsUnwritten r = (r ≡ refusal.Memory false) ⊎ ((f : Fault) × (r ≡ refusal.State f))

abbrev pub IsUndecided : Undecided → Type 0
IsUndecided r = (r ≡ undecided.Memory) ⊎ ((f : Fault) × (r ≡ undecided.State f))

-- nothing of what was asked for was begun: the answer is true of each machine, and adds nothing
pub record IsNotBegun (asked : Work) (answer : Answer) : Type 0 where
  pub held : (m : Machine) → IsHeld m asked answer
  pub adds : (log : List Record) → AddsBy log asked answer []

-- what several make of it, one after another
pub record DoesAll (old : Machine) (told : List Told) (new : Machine) : Type 0 where
  pub grows : Grows old new
  pub added : List Commit
  pub commits : commits_of new.held.log ≡ commits_of old.held.log ++ added
  pub adds : Adds new.held.log told added
  pub held : AllByRecursion (IsHeldOf new) told
  pub published : new.published ≡ old.published

-- the answer to what is done
abbrev pub done_by : Work → Written → Answer
done_by (work.Commit t) w = Committed w
done_by (work.Prepare t) w = Prepared w
done_by (work.Decide trans verdict) w = Decided w

-- The answers after a force and its confirmation. Where enough others hold the log up to an LSN, what is written is done. Where too few do,
-- a takeover may take back what is written, and what refused another work; so why that was refused is not answered. After a force or a
-- confirmation that failed nothing is known of what is written, and the leader ends, for which each other work is refused.
abbrev pub written_after : Forced → Work → Written → Answer
written_after (Confirmed lsn) asked w = if nat_le w.end.0 lsn.0 then done_by asked w else Unknown w
written_after Unconfirmed asked w = Unknown w
written_after (Failed f) asked w = Unknown w

abbrev pub refused_after : Forced → Refusal → Answer
refused_after (Confirmed lsn) r = Refused r
refused_after Unconfirmed r = Withheld
refused_after (Failed f) r = Refused (refusal.State f)

abbrev pub undecided_after : Forced → Undecided → Answer
undecided_after (Confirmed lsn) r = NotDecided r
undecided_after Unconfirmed r = Withheld
undecided_after (Failed f) r = NotDecided (undecided.State f)

abbrev pub answer_after : Forced → Work → Answer → Answer
answer_after forced asked (Committed w) = written_after forced asked w
answer_after forced asked (Prepared w) = written_after forced asked w
answer_after forced asked (Decided w) = written_after forced asked w
answer_after forced asked (Refused r) = refused_after forced r
answer_after forced asked (NotDecided r) = undecided_after forced r
answer_after forced asked (Unknown w) = written_after forced asked w
answer_after forced asked Withheld = Withheld

abbrev pub told_after : Forced → Told → Told
told_after forced told = record { asked = told.asked; answer = answer_after forced told.asked.work told.answer }

abbrev pub all_after : Forced → List Told → List Told
all_after forced told = map (told_after forced) told

-- the log ends at or below an LSN up to which it is acknowledged
pub record IsStableTo (m : Machine) (lsn : Lsn) : Type 0 where
  pub whole : end_of m.held.log ≤ lsn.0
  pub reaches : lsn.0 ≤ acknowledged m.held

-- where the group is confirmed, the log is stable up to there
abbrev pub IsStableIn : Forced → Machine → Type 0
IsStableIn (Confirmed lsn) m = IsStableTo m lsn
IsStableIn Unconfirmed m = Unit {0}
IsStableIn (Failed f) m = Unit {0}

-- what was asked for was taken, and queued with what it made of the machine
pub record Fills (alone : Type 0) (old new : Machine) (taken taken_now : List Asked) (queued queued_now : List Told) : Type 0 where
  pub more : List Told
  pub joined : queued_now ≡ queued ++ more
  pub once : taken_now ≡ taken ++ asked_of more
  pub does : alone → DoesAll old more new
