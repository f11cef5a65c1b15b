-- Runs of steps over a world.
use Rattle.std.specs.Prelude.{◌≡◌, ℕ, ◌⊎◌, Bool, true, false, List, [], ◌∷◌, length, Option, Ok, Err}
use Rattle.als_record.specs.declared.key.Key.{Key}
use Rattle.als_record.specs.LogText.{end_of}
use Rattle.als_lease.specs.Lease.{Leased}
use Rattle.als_ckpt.specs.Control.{Continues}
use Rattle.als_store.specs.Stored.{newest}
use Rattle.als_engine.specs.declared.config.Config.{Config}
use Rattle.als_engine.specs.declared.fault.Fault.TheVariants as fault
use Rattle.als_engine.specs.declared.step.Step.{Step as Event}
use Rattle.als_engine.specs.Machine.{Machine}
use Rattle.als_reopen.specs.Node.{Node, IsNode}
use Rattle.als_store.specs.Stopped.{Devices, CrashesTo, NamesState}
use Rattle.als_engine.specs.Restarts.{Leaves, IsStarted}
use Rattle.als_engine.specs.Publishing.{ReadsKey}
use Rattle.als_engine.specs.Runs.{Steps as EngineSteps}
use Rattle.als_world.specs.declared.step.WorldStep.{WorldStep}
use Rattle.als_world.specs.declared.step.WorldStep.TheVariants as step
use Rattle.als_world.specs.declared.step.WorldReply.{WorldReply}
use Rattle.als_world.specs.declared.step.WorldReply.TheVariants as reply
use Rattle.als_disk.specs.Slot.{Slot}
use Rattle.als_world.specs.declared.world.World.{World}
use Rattle.als_world.specs.Slots.{no_leases}
use Rattle.als_world.specs.Leasing.{BySlot, LendsInto, RedoesIn, HandsOver, GivesFrom, DropsFrom}
use Rattle.als_world.specs.Standing.{Standing, Up, Down, Shows, Keeps}

-- What devices hold is taken up again: it begins with that and with empty slots, or a device failed or an allocation failed, and the devices hold
-- the same.
unfoldable pub Opens : Config → Node → ℕ → WorldReply → Standing → Type 0
Opens config n workers (reply.Restarted end) (Up new slots) = (end.0 ≡ end_of n.log) × IsStarted config n new × (slots ≡ no_leases workers)
Opens config n workers (reply.Refused cause) (Down left still) = ((cause ≡ fault.Device) ⊎ (cause ≡ fault.Memory)) × (left ≡ n) × (still ≡ workers)
Opens config n workers answer new = ⊥

-- A crash leaves what the picks name of the devices that a stop of the machine leaves, which hold this. Where no device has failed, one of the first
-- picks names the control state.
pub record IsPicked (config : Config) (old : Machine) (picks : List ℕ) (left : Node) : Type 0 where
  pub disks : Devices
  pub used : ℕ
  pub crashes : CrashesTo old.held picks disks used
  pub state : old.held.broken ≡ false → NamesState old.held picks disks
  pub holds : IsNode config.pages disks.log.blocks disks.log.slot disks.control.slot disks.pages.slot left

-- A crash leaves something of the machine, as the picks name it, which is taken up again. It leaves no lease. The history goes on from that of the
-- control state that is left, and the log that this state acknowledges ends at or below the next seal.
pub record Crashes (config : Config) (old : Machine) (slots : List (Option Leased)) (picks : List ℕ) (answer : WorldReply) (new : Standing) : Type 0 where
  pub left : Node
  pub leaves : Leaves old left
  pub picked : IsPicked config old picks left
  pub opens : Opens config left (length slots) answer new
  pub continued : Continues left.said.state (newest old.held)

-- an event is the small machine's
abbrev pub AnswersEvent : Machine → Event → WorldReply → Machine → Type 0
AnswersEvent old event (reply.Event answer) new = EngineSteps old event answer new
AnswersEvent old event answer new = ⊥

-- a reader is answered out of what is published
abbrev pub AnswersRead : Machine → Key → WorldReply → Type 0
AnswersRead m key (reply.Answered answer) = ReadsKey m key (Ok answer)
AnswersRead m key (reply.Refused cause) = ReadsKey m key (Err cause)
AnswersRead m key answer = ⊥

-- A step of a world that stays up. An event leaves the slots as they are, a read changes nothing, and to redo, hand or drop a lease changes nothing
-- of the small machine.
unfoldable pub Acts : Machine → List (Option Leased) → WorldStep → WorldReply → Machine → List (Option Leased) → Type 0
Acts old slots (step.Event event) answer new after = AnswersEvent old event answer new × (after ≡ slots)
Acts old slots (step.Read key) answer new after = AnswersRead old key answer × (new ≡ old) × (after ≡ slots)
Acts old slots (step.Lend page to) answer new after =
    BySlot slots (step.Lend page to) answer (LendsInto old slots page to answer new after) ((new ≡ old) × (after ≡ slots))
Acts old slots (step.Redo at) answer new after = BySlot slots (step.Redo at) answer (RedoesIn slots at answer after) (after ≡ slots) × (new ≡ old)
Acts old slots (step.Hand from to) answer new after =
    BySlot slots (step.Hand from to) answer (HandsOver slots from to answer after) (after ≡ slots) × (new ≡ old)
Acts old slots (step.Give from) answer new after =
    BySlot slots (step.Give from) answer (GivesFrom old slots from answer new after) ((new ≡ old) × (after ≡ slots))
Acts old slots (step.Drop from) answer new after = BySlot slots (step.Drop from) answer (DropsFrom slots from answer after) (after ≡ slots) × (new ≡ old)
Acts old slots (step.Crash picks) answer new after = ⊥

-- the standby stops and begins again
abbrev pub is_crash : WorldStep → Bool
is_crash (step.Crash picks) = true
is_crash event = false

-- A world that is up acts, or crashes. While it is down a crash only opens again, and each other step is refused.
unfoldable pub Steps : Config → Standing → WorldStep → WorldReply → Standing → Type 0
Steps config (Up old slots) (step.Crash picks) answer new = Crashes config old slots picks.now answer new
Steps config (Down n workers) (step.Crash picks) answer new = Opens config n workers answer new
Steps config (Up old slots) event answer (Up new after) = Acts old slots event answer new after
Steps config (Up old slots) event answer (Down n workers) = ⊥
Steps config (Down n workers) event answer new = (answer ≡ reply.Refused fault.Stopped) × (new ≡ Down n workers)

-- The steps have these replies, one after another, and lead from old to new.
unfoldable pub Run : Config → Standing → List WorldStep → List WorldReply → Standing → Type 0
Run config old [] [] new = new ≡ old
Run config old (step ∷ steps) (reply ∷ replies) new = (mid : Standing) × Steps config old step reply mid × Run config mid steps replies new
Run config old [] (reply ∷ replies) new = ⊥
Run config old (step ∷ steps) [] new = ⊥

-- For what devices hold there is what the world then shows, where it is taken up again.
abbrev pub OpensTo : {D : Type 0} → (D → ℕ → Slot) → (D → ℕ) → Config → Node → ℕ → WorldReply → World D → Type 0
OpensTo slot count config n workers reply after = (new : Standing) × Shows slot count after new × Opens config n workers reply new

-- For what a world shows there is what it shows after the step, and what is kept.
abbrev pub StepsTo : {D : Type 0} → (D → ℕ → Slot) → (D → ℕ) → Config → Standing → WorldStep → WorldReply → World D → Type 0
StepsTo slot count config old step reply after = (new : Standing) × Shows slot count after new × Steps config old step reply new × Keeps old new
