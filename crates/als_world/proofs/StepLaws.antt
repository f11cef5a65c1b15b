-- One step over a world.
use Rattle.std.proofs.Common.{◌≡◌, ℕ, ◌≤◌, ◌⊎◌, List, length, Option, Bor, true, false, true≢false, refl, sym, ap, subst, arith}
use Rattle.als_record.specs.declared.lsn.Lsn.{Lsn}
use Rattle.als_record.specs.LogText.{end_of}
use Rattle.als_record.specs.Validity.{is_valid}
use Rattle.als_disk.specs.Slot.{Slot}
use Rattle.als_lease.specs.Lease.{Leased}
use Rattle.als_engine.specs.declared.config.Config.{Config}
use Rattle.als_engine.specs.declared.fault.Fault.{Fault}
use Rattle.als_engine.specs.declared.fault.Fault.TheVariants as fault
use Rattle.als_engine.specs.Config.{IsConfig}
use Rattle.als_engine.specs.Formatting.{FormatsWorld}
use Rattle.als_engine.specs.Machine.{Machine, Keeps as EngineKeeps}
use Rattle.als_engine.specs.Serving.{Serving}
use Rattle.als_reopen.specs.Node.{Node}
use Rattle.als_engine.specs.Restarts.{IsWarm, IsMadeWith, StillHolds, Leaves, IsStarted}
use Rattle.als_reopen.specs.declared.disks.Disks.{Disks}
use Rattle.als_world.specs.declared.place.Place.{Place}
use Rattle.als_world.specs.declared.place.Place.TheVariants as place
use Rattle.als_world.specs.declared.world.World.{World}
use Rattle.als_world.specs.declared.step.WorldStep.{WorldStep}
use Rattle.als_world.specs.declared.step.WorldStep.TheVariants as step
use Rattle.als_world.specs.declared.step.WorldReply.{WorldReply}
use Rattle.als_world.specs.declared.step.WorldReply.TheVariants as reply
use Rattle.als_world.specs.Standing.{Standing, Up, Down, Shown, Shows}
use Rattle.als_world.specs.Slots.{no_leases}
use Rattle.als_world.specs.Runs.{Acts, Opens, IsPicked, Crashes, is_crash, Steps, OpensTo, StepsTo}
use Rattle.als_world.proofs.KeepLaws.{IsCounted, keeps-same, keeps-event, keeps-opened, keeps-crash, made-still}

-- what a world is that is up, and one that is down
abbrev pub up : {D : Type 0} → Config → List (Option Leased) → Serving → World D
up {D} config slots engine = record { config = config; slots = slots; place = place.Up engine }

abbrev pub down : {D : Type 0} → Config → List (Option Leased) → Disks D → World D
down {D} config slots disks = record { config = config; slots = slots; place = place.Down disks }

-- the devices hold a node, whatever a crash leaves of them
abbrev pub Held : {D : Type 0} → (D → ℕ → Slot) → (D → ℕ) → Config → Disks D → Node → Type 0
Held slot count config disks n = StillHolds config (count disks.log) (count disks.control) (count disks.pages) (slot disks.log) (slot disks.control) (slot disks.pages) n

-- a step that no picks make a crash of
pub not_crash : (event : WorldStep) → ((picks : Bor (List ℕ)) → event ≡ step.Crash picks → ⊥) → is_crash event ≡ false
not_crash (step.Event event) other = refl
not_crash (step.Read key) other = refl
not_crash (step.Lend page to) other = refl
not_crash (step.Redo at) other = refl
not_crash (step.Hand from to) other = refl
not_crash (step.Give from) other = refl
not_crash (step.Drop from) other = refl
not_crash (step.Crash picks) other = absurd (other picks refl)

-- a world that is up after a step
shows-acted : {D : Type 0} (slot : D → ℕ → Slot) (count : D → ℕ) (config : Config) (slots : List (Option Leased)) (engine : Serving) → IsMadeWith config engine.machine → IsWarm engine.machine
    → Shows slot count (up {D = D} config slots engine) (Up engine.machine slots)
unfolding Shows Shown
shows-acted {D} slot count config slots engine made warm = (refl, made, warm, refl)

module _ {D : Type 0} (slot : D → ℕ → Slot) (count : D → ℕ) (config : Config) (slots : List (Option Leased)) where
  pub shows-up : (engine : Serving) → IsMadeWith config engine.machine → IsWarm engine.machine → Shows slot count (up {D = D} config slots engine) (Up engine.machine slots)
  shows-up engine made warm = shows-acted slot count config slots engine made warm

  pub shows-down : (disks : Disks D) (n : Node) (workers : ℕ) → Held slot count config disks n → slots ≡ no_leases workers
      → Shows slot count (down {D = D} config slots disks) (Down n workers)
  unfolding Shows Shown
  shows-down disks n workers held empty = (held, empty)

  -- the machine of a new database
  pub shows-formatted : (engine : Serving) (log_blocks page_blocks page_failures page_attempts failures : ℕ) → IsConfig config → FormatsWorld config log_blocks page_blocks page_failures page_attempts failures engine.machine → IsWarm engine.machine
      → Shows slot count (up {D = D} config slots engine) (Up engine.machine slots)
  shows-formatted engine log_blocks page_blocks page_failures page_attempts failures numbers is warm =
      shows-up engine (record { numbers = numbers; pages = ap (λ (m : Machine). m.held.pages) is; limit = ap (λ (m : Machine). m.limit) is }) warm

  -- ---- an opening

  pub opens-up : (n : Node) (workers : ℕ) (engine : Serving) (end : Lsn) → end.0 ≡ end_of engine.machine.held.log → IsStarted config n engine.machine → slots ≡ no_leases workers
      → OpensTo slot count config n workers (reply.Restarted end) (up {D = D} config slots engine)
  unfolding Opens
  opens-up n workers engine end at started empty =
      (Up engine.machine slots, shows-up engine started.made started.warm, (rw (at, started.log) refl, started, empty))

  pub opens-down : (n : Node) (workers : ℕ) (disks : Disks D) (cause : Fault) → ((cause ≡ fault.Device) ⊎ (cause ≡ fault.Memory)) × Held slot count config disks n → slots ≡ no_leases workers
      → OpensTo slot count config n workers (reply.Refused cause) (down {D = D} config slots disks)
  unfolding Opens
  opens-down n workers disks cause refused empty = (Down n workers, shows-down disks n workers refused.1 empty, (refused.0, refl, refl))

  -- ---- a step

  steps-acts : (old : Machine) (event : WorldStep) (answer : WorldReply) (new : Machine) (after : List (Option Leased)) → Acts old slots event answer new after
      → Steps config (Up old slots) event answer (Up new after)
  unfolding Steps Acts
  steps-acts old (step.Event event) answer new after a = a
  steps-acts old (step.Read key) answer new after a = a
  steps-acts old (step.Lend page to) answer new after a = a
  steps-acts old (step.Redo at) answer new after a = a
  steps-acts old (step.Hand from to) answer new after a = a
  steps-acts old (step.Give from) answer new after a = a
  steps-acts old (step.Drop from) answer new after a = a
  steps-acts old (step.Crash picks) answer new after a = absurd a

  pub steps-up : (old : Machine) (event : WorldStep) (answer : WorldReply) (engine : Serving) (after : List (Option Leased)) → IsMadeWith config old → IsWarm old
      → Acts old slots event answer engine.machine after → EngineKeeps old engine.machine → IsCounted old → is_valid engine.machine.held.log ≡ true
      → StepsTo slot count config (Up old slots) event answer (up {D = D} config after engine)
  steps-up old event answer engine after made warm acts keeps counts valid = (
    Up engine.machine after,
    shows-acted slot count config after engine (made-still config old engine.machine keeps made) (keeps.warm warm),
    steps-acts old event answer engine.machine after acts,
    keeps-event old engine.machine slots after counts valid keeps,
  )

  pub steps-crash : (old : Machine) (picks : Bor (List ℕ)) (n : Node) (answer : WorldReply) (after : World D) → IsCounted old → Leaves old n → IsPicked config old picks.now n
      → OpensTo slot count config n (length slots) answer after
      → StepsTo slot count config (Up old slots) (step.Crash picks) answer after
  unfolding Steps
  steps-crash old picks n answer after counts leaves picked opens =
      let crash : Crashes config old slots picks.now answer opens.0 = record { left = n; leaves = leaves; picked = picked; opens = opens.2; continued = counts.grown n.said.state leaves.may.state } in
      (opens.0, opens.1, crash, keeps-crash config old slots picks.now answer opens.0 counts crash)

  refused-down : (n : Node) (workers : ℕ) (event : WorldStep) → is_crash event ≡ false → Steps config (Down n workers) event (reply.Refused fault.Stopped) (Down n workers)
  unfolding Steps
  refused-down n workers (step.Event event) other = (refl, refl)
  refused-down n workers (step.Read key) other = (refl, refl)
  refused-down n workers (step.Lend page to) other = (refl, refl)
  refused-down n workers (step.Redo at) other = (refl, refl)
  refused-down n workers (step.Hand from to) other = (refl, refl)
  refused-down n workers (step.Give from) other = (refl, refl)
  refused-down n workers (step.Drop from) other = (refl, refl)
  refused-down n workers (step.Crash picks) other = absurd (true≢false other)

  pub steps-refused : (n : Node) (workers : ℕ) (event : WorldStep) (disks : Disks D) → is_crash event ≡ false → Held slot count config disks n → slots ≡ no_leases workers
      → StepsTo slot count config (Down n workers) event (reply.Refused fault.Stopped) (down {D = D} config slots disks)
  steps-refused n workers event disks other held empty =
      (Down n workers, shows-down disks n workers held empty, refused-down n workers event other, keeps-same (Down n workers) (omega (arith, held.stays.node.held.ends)))

  pub steps-again : (n : Node) (workers : ℕ) (picks : Bor (List ℕ)) (answer : WorldReply) (after : World D) → end_of n.log ≡ n.said.state.mark.0
      → OpensTo slot count config n workers answer after → StepsTo slot count config (Down n workers) (step.Crash picks) answer after
  unfolding Steps
  steps-again n workers picks answer after ends opens = (opens.0, opens.1, opens.2, keeps-opened config n workers answer opens.0 ends opens.2)

-- ---- whatever a world shows

module _ {D : Type 0} (slot : D → ℕ → Slot) (count : D → ℕ) (world : World D) (step : WorldStep) (answer : WorldReply) (after : World D) where
  -- what follows for its machine
  abbrev AfterUp : Serving → Type 0
  AfterUp engine = IsMadeWith world.config engine.machine → IsWarm engine.machine → StepsTo slot count world.config (Up engine.machine world.slots) step answer after

  -- what follows for what its devices hold
  abbrev AfterDown : Disks D → Type 0
  AfterDown disks = (n : Node) (workers : ℕ) → Held slot count world.config disks n → world.slots ≡ no_leases workers → StepsTo slot count world.config (Down n workers) step answer after

  from-up : (engine : Serving) (old : Standing) → AfterUp engine → Shown slot count world.config world.slots (place.Up engine) old → StepsTo slot count world.config old step answer after
  unfolding Shown
  from-up engine (Up m slots) k s =
      subst (λ (x : Machine). StepsTo slot count world.config (Up x slots) step answer after) (sym s.0)
      (subst (λ (x : List (Option Leased)). StepsTo slot count world.config (Up engine.machine x) step answer after) (sym s.3)
      (k (subst (λ (x : Machine). IsMadeWith world.config x) s.0 s.1) (subst (λ (x : Machine). IsWarm x) s.0 s.2)))
  from-up engine (Down n workers) k s = absurd s

  from-down : (disks : Disks D) (old : Standing) → AfterDown disks → Shown slot count world.config world.slots (place.Down disks) old → StepsTo slot count world.config old step answer after
  unfolding Shown
  from-down disks (Up m slots) k s = absurd s
  from-down disks (Down n workers) k s = k n workers s.0 s.1

  pub over-up : (engine : Serving) → world.place ≡ place.Up engine → AfterUp engine → (old : Standing) → Shows slot count world old → StepsTo slot count world.config old step answer after
  unfolding Shows
  over-up engine is k old shows = from-up engine old k (subst (λ (p : Place D). Shown slot count world.config world.slots p old) is shows)

  pub over-down : (disks : Disks D) → world.place ≡ place.Down disks → AfterDown disks → (old : Standing) → Shows slot count world old → StepsTo slot count world.config old step answer after
  unfolding Shows
  over-down disks is k old shows = from-down disks old k (subst (λ (p : Place D). Shown slot count world.config world.slots p old) is shows)

-- what is true of a world that is up or down is true of what it shows
module _ {D : Type 0} (slot : D → ℕ → Slot) (count : D → ℕ) (world : World D) where
  about-up : (P : Standing → Type 0) (engine : Serving) (s : Standing) → ((slots : List (Option Leased)) → IsWarm engine.machine → P (Up engine.machine slots))
      → Shown slot count world.config world.slots (place.Up engine) s → P s
  unfolding Shown
  about-up P engine (Up m slots) k s = subst (λ (x : Machine). P (Up x slots)) (sym s.0) (k slots (subst (λ (x : Machine). IsWarm x) s.0 s.2))
  about-up P engine (Down n workers) k s = absurd s

  about-down : (P : Standing → Type 0) (disks : Disks D) (s : Standing) → ((n : Node) (workers : ℕ) → Held slot count world.config disks n → P (Down n workers))
      → Shown slot count world.config world.slots (place.Down disks) s → P s
  unfolding Shown
  about-down P disks (Up m slots) k s = absurd s
  about-down P disks (Down n workers) k s = k n workers s.0

  pub all-up : (P : Standing → Type 0) (engine : Serving) → world.place ≡ place.Up engine → ((slots : List (Option Leased)) → IsWarm engine.machine → P (Up engine.machine slots))
      → (s : Standing) → Shows slot count world s → P s
  unfolding Shows
  all-up P engine is k s shows = about-up P engine s k (subst (λ (p : Place D). Shown slot count world.config world.slots p s) is shows)

  pub all-down : (P : Standing → Type 0) (disks : Disks D) → world.place ≡ place.Down disks → ((n : Node) (workers : ℕ) → Held slot count world.config disks n → P (Down n workers))
      → (s : Standing) → Shows slot count world s → P s
  unfolding Shows
  all-down P disks is k s shows = about-down P disks s k (subst (λ (p : Place D). Shown slot count world.config world.slots p s) is shows)
