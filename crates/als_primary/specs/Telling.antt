-- What the askers of a primary are told, and when.
use Rattle.std.specs.Prelude.{ℕ, List, map}
use Rattle.als_callers.specs.declared.block.Block.{Block}
use Rattle.als_engine.specs.declared.fault.Fault.{Fault}
use Rattle.als_engine.specs.Machine.{Machine}
use Rattle.als_writer.specs.declared.work.Work.{Work}
use Rattle.als_lead.specs.declared.answer.Answer.{Answer}
use Rattle.als_lead.specs.declared.asked.Asked.{Asked}
use Rattle.als_lead.specs.declared.told.Told.{Told}
use Rattle.als_lead.specs.Owed.{IsDue}
use Rattle.als_seats.specs.declared.place.Place.{Place}
use Rattle.als_seats.specs.Places.{number_of}
use Rattle.als_tickets.specs.declared.account.Account.{Account}
use Rattle.als_tickets.specs.declared.reply.Reply.{Reply}
use Rattle.als_tickets.specs.Replies.{replies_of}
use Rattle.als_primary.specs.declared.answers.Answers.{Answers}
use Rattle.als_primary.specs.Others.{IsConfirmed, IsMissed}

-- ---- what is told

-- work that was asked from a place
abbrev pub asked_by : Place → Work → Asked
asked_by place work = record { seat = number_of place; work = work }

-- what was put into a slot
abbrev pub told_by : Reply Work Answer → Told
told_by r = record { asked = asked_by r.place r.question; answer = r.answer }

-- all that was, in order
abbrev pub told_of : Account Work Answer → List Told
told_of account = map told_by (replies_of account)

-- ---- when it may be told

-- no confirmation fails: the quorum always answers
abbrev pub never_failed : Answers → Fault → Type 0
never_failed answers f = ⊥

-- Where nobody else drives the engine: the answer is true of a machine that it has become since the primary began, and `count` followers at these
-- addresses have acknowledged the log up to where it ends, or what refused it; and it has its cause.
abbrev pub IsPromised : {E : Type 0} → Type 0 → (E → Machine) → E → List Block → ℕ → Work → Answer → Type 0
IsPromised {E} alone machine start blocks count asked answer =
    alone → (engine : E) × (answers : Answers) × IsDue E Answers machine (IsConfirmed blocks count) (IsMissed blocks count) never_failed start engine answers asked answer

-- all that is promised may be told
abbrev pub OwesTo : {E : Type 0} → Type 0 → (E → Machine) → E → List Block → ℕ → (Work → Answer → Type 0) → Type 0
OwesTo alone machine start blocks count may_tell = (asked : Work) (answer : Answer) → IsPromised alone machine start blocks count asked answer → may_tell asked answer

-- and nothing else may be
abbrev pub OwesOnly : {E : Type 0} → Type 0 → (E → Machine) → E → List Block → ℕ → (Work → Answer → Type 0) → Type 0
OwesOnly alone machine start blocks count may_tell = (asked : Work) (answer : Answer) → may_tell asked answer → IsPromised alone machine start blocks count asked answer
