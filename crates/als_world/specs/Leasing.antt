-- What a step over a worker slot makes of the leases and of the small machine, and what it answers.
use Rattle.std.specs.Prelude.{◌≡◌, ℕ, ◌+◌, ◌<◌, Bool, true, ◌&&◌, List, length, slice_set, if◌then◌else◌, Option, Some, None, MatchOption, Ok, Err}
use Rattle.als_lease.specs.Lease.{Leased, working_of, is_finished, with_done}
use Rattle.als_engine.specs.declared.fault.Fault.{Fault}
use Rattle.als_engine.specs.declared.fault.Fault.TheVariants as fault
use Rattle.als_engine.specs.declared.not_given.NotGiven.{NotGiven}
use Rattle.als_engine.specs.Leases.{Lends, Gives}
use Rattle.als_engine.specs.Machine.{Machine}
use Rattle.als_world.specs.declared.step.WorldStep.{WorldStep}
use Rattle.als_world.specs.declared.step.WorldStep.TheVariants as step
use Rattle.als_world.specs.declared.step.WorldReply.{WorldReply}
use Rattle.als_world.specs.declared.step.WorldReply.TheVariants as reply
use Rattle.als_world.specs.Slots.{lease_at, has_lease, has_room, with_lease, without_lease}

-- ---- the cause that comes before those of the engine

-- whether the slots of a step allow it: a slot that gives a lease has one, and one that takes a lease exists and is empty
abbrev pub fits_slots : List (Option Leased) → WorldStep → Bool
fits_slots slots (step.Event event) = true
fits_slots slots (step.Read key) = true
fits_slots slots (step.Lend page to) = has_room slots to
fits_slots slots (step.Redo at) = has_lease slots at
fits_slots slots (step.Hand from to) = has_lease slots from && has_room slots to
fits_slots slots (step.Give from) = has_lease slots from
fits_slots slots (step.Drop from) = has_lease slots from
fits_slots slots (step.Crash picks) = true

-- the fault by which a step is refused for its slots, if it is
abbrev pub slot_refusal : List (Option Leased) → WorldStep → Option Fault
slot_refusal slots event = if fits_slots slots event then None else Some fault.BadSlot

-- A step that its slots do not allow changes nothing; any other one acts.
abbrev pub BySlot : List (Option Leased) → WorldStep → WorldReply → Type 0 → Type 0 → Type 0
BySlot slots event answer acts unchanged = MatchOption (slot_refusal slots event) acts (λ cause. (answer ≡ reply.Refused cause) × unchanged)

-- ---- the steps, where their slots allow them

-- the page is lent, and its lease is in the slot; or the engine refuses to lend it, and the slots stay
abbrev pub LendsInto : Machine → List (Option Leased) → ℕ → ℕ → WorldReply → Machine → List (Option Leased) → Type 0
LendsInto old slots page to (reply.Lent number batch) new after =
    (lease : Leased) × Lends old page (Ok lease) new × (number ≡ lease.number) × (batch ≡ length lease.batch) × (after ≡ with_lease slots to lease)
LendsInto old slots page to (reply.Refused cause) new after = Lends old page (Err cause) new × (after ≡ slots)
LendsInto old slots page to answer new after = ⊥

-- The next change of the lease is redone, and the page_LSN of its working page is answered; or it is finished, and nothing changes.
abbrev pub RedoesIn : List (Option Leased) → ℕ → WorldReply → List (Option Leased) → Type 0
RedoesIn slots at (reply.Redone lsn) after =
    (lease : Leased) × (lease_at slots at ≡ Some lease) × (lease.done < length lease.batch) × (lsn.0 ≡ (working_of (with_done lease (lease.done + 1))).lsn)
    × (after ≡ with_lease slots at (with_done lease (lease.done + 1)))
RedoesIn slots at (reply.Refused cause) after =
    (lease : Leased) × (lease_at slots at ≡ Some lease) × (is_finished lease ≡ true) × (cause ≡ fault.NothingToDo) × (after ≡ slots)
RedoesIn slots at answer after = ⊥

-- the lease moves from one slot to another
abbrev pub HandsOver : List (Option Leased) → ℕ → ℕ → WorldReply → List (Option Leased) → Type 0
HandsOver slots from to answer after = (answer ≡ reply.Done) × (after ≡ slice_set (without_lease slots from) to (lease_at slots from))

-- the engine takes the lease in, and its slot is empty; or it refuses the lease, which stays in its slot
abbrev pub GivesFrom : Machine → List (Option Leased) → ℕ → WorldReply → Machine → List (Option Leased) → Type 0
GivesFrom old slots from reply.Done new after =
    (lease : Leased) × (lease_at slots from ≡ Some lease) × Gives old lease (Ok tt) new × (after ≡ without_lease slots from)
GivesFrom old slots from (reply.Refused cause) new after =
    (lease : Leased) × (lease_at slots from ≡ Some lease) × Gives old lease (Err (record { lease = lease; fault = cause })) new × (after ≡ slots)
GivesFrom old slots from answer new after = ⊥

-- the lease is gone, and its page stays lent
abbrev pub DropsFrom : List (Option Leased) → ℕ → WorldReply → List (Option Leased) → Type 0
DropsFrom slots from answer after = (answer ≡ reply.Done) × (after ≡ without_lease slots from)
