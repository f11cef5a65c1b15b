-- A world that was asked shows what it showed, but for a read that failed.
use Rattle.std.proofs.Common.{◌≡◌, ℕ, ◌≤◌, ◌∙◌, Result, Ok, Err, Option, Some, None, List, Bor, true, inl, inr, refl, sym, ap, subst}
use Rattle.als_record.specs.declared.lsn.Lsn.{Lsn}
use Rattle.als_record.specs.declared.record.Record.{Record}
use Rattle.als_page.specs.declared.page.Page.{Page}
use Rattle.als_disk.specs.Slot.{Slot}
use Rattle.als_lease.specs.Lease.{Leased}
use Rattle.als_reopen.specs.Node.{Node}
use Rattle.als_reopen.specs.declared.disks.Disks.{Disks}
use Rattle.als_store.specs.Stored.{Stored}
use Rattle.als_store.specs.Origin.{Origin}
use Rattle.als_store.specs.Warm.{IsWarm as IsWarmOrigin}
use Rattle.als_engine.specs.declared.fault.Fault.{Fault}
use Rattle.als_engine.specs.declared.fault.Fault.TheVariants as fault
use Rattle.als_engine.specs.Events.{Reads, ShowsPage}
use Rattle.als_engine.specs.Machine.{Machine}
use Rattle.als_engine.specs.Restarts.{IsMadeWith, IsWarm}
use Rattle.als_engine.specs.Serving.{Serving}
use Rattle.als_world.specs.declared.place.Place.{Place}
use Rattle.als_world.specs.declared.place.Place.TheVariants as place
use Rattle.als_world.specs.declared.world.World.{World}
use Rattle.als_world.specs.Asking.{IsEngineOf, TellsPage, TellsRecord, TellsTo}
use Rattle.als_world.specs.Standing.{Standing, Up, Down, Shown, Shows}
use Rattle.als_world.proofs.StepLaws.{up, shows-up}

-- ---- what a query leaves of a machine

-- as it was made, and as warm
pub record Stays (old new : Machine) : Type 0 where
  pub pages : new.held.pages ≡ old.held.pages
  pub limit : new.limit ≡ old.limit
  pub warm : IsWarm old → IsWarm new

stays-same : (old new : Machine) → new ≡ old → Stays old new
stays-same old new same = subst (λ (m : Machine). Stays old m) (sym same) (record { pages = refl; limit = refl; warm = λ w. w })

stays-held : (old new : Machine) (held : Stored) → new ≡ record old { held = held } → held.pages ≡ old.held.pages → held.origin ≡ old.held.origin → Stays old new
stays-held old new held after pages origin = record {
  pages = ap (λ (m : Machine). m.held.pages) after ∙ pages;
  limit = ap (λ (m : Machine). m.limit) after;
  warm = λ w. subst (λ (o : Origin). IsWarmOrigin true o) (sym (ap (λ (m : Machine). m.held.origin) after ∙ origin)) w;
}

pub stays-shown : (old : Machine) (page : ℕ) (answer : Result Page Fault) (new : Machine) → ShowsPage old page answer new → Stays old new
stays-shown old page (Ok shown) new s = stays-same old new s.3
stays-shown old page (Err fault) new s = elim s [
  | inl failed ↦ stays-held old new failed.1.held failed.1.after (ap (λ (h : Stored). h.pages) failed.1.becomes.after) (ap (λ (h : Stored). h.origin) failed.1.becomes.after)
  | inr absent ↦ stays-same old new absent.after
]

pub stays-read : (old : Machine) (lsn : Lsn) (answer : Result (Option Record) Fault) (new : Machine) → Reads old lsn answer new → Stays old new
stays-read old lsn (Ok found) new r = stays-same old new r.1
stays-read old lsn (Err fault) new r = elim r [
  | inl memory ↦ stays-same old new memory.2
  | inr failed ↦ stays-held old new failed.1 failed.3 (ap (λ (h : Stored). h.pages) failed.2.after) (ap (λ (h : Stored). h.origin) failed.2.after)
]

-- ---- what a world tells

module _ {D : Type 0} (slot : D → ℕ → Slot) (count : D → ℕ) (world : World D) where
  tells-up-of : (tells : Standing → Standing → Type 0) (engine after : Serving) → Stays engine.machine after.machine → tells (Up engine.machine world.slots) (Up after.machine world.slots)
      → (old : Standing) → Shown slot count world.config world.slots (place.Up engine) old
      → (new : Standing) × Shows slot count (up {D = D} world.config world.slots after) new × tells old new
  unfolding Shown
  tells-up-of tells engine after stays told (Up m slots) s =
      let made = subst (λ (x : Machine). IsMadeWith world.config x) s.0 s.1 in
      let still : IsMadeWith world.config after.machine = record { numbers = made.numbers; pages = stays.pages ∙ made.pages; limit = stays.limit ∙ made.limit } in (
        Up after.machine world.slots,
        shows-up slot count world.config world.slots after still (stays.warm (subst (λ (x : Machine). IsWarm x) s.0 s.2)),
        subst (λ (x : Machine). tells (Up x slots) (Up after.machine world.slots)) (sym s.0)
            (subst (λ (x : List (Option Leased)). tells (Up engine.machine x) (Up after.machine world.slots)) (sym s.3) told),
      )
  tells-up-of tells engine after stays told (Down n workers) s = absurd s

  pub tells-up : (tells : Standing → Standing → Type 0) (engine after : Serving) → world.place ≡ place.Up engine → Stays engine.machine after.machine
      → tells (Up engine.machine world.slots) (Up after.machine world.slots) → TellsTo slot count world tells (up {D = D} world.config world.slots after)
  unfolding Shows
  tells-up tells engine after is stays told = λ old shows.
      tells-up-of tells engine after stays told old (subst (λ (p : Place D). Shown slot count world.config world.slots p old) is shows)

  tells-down-of : (tells : Standing → Standing → Type 0) (disks : Disks D) → ((n : Node) (workers : ℕ) → tells (Down n workers) (Down n workers)) → (old : Standing)
      → Shown slot count world.config world.slots (place.Down disks) old → tells old old
  unfolding Shown
  tells-down-of tells disks told (Up m slots) s = absurd s
  tells-down-of tells disks told (Down n workers) s = told n workers

  pub tells-down : (tells : Standing → Standing → Type 0) (disks : Disks D) → world.place ≡ place.Down disks → ((n : Node) (workers : ℕ) → tells (Down n workers) (Down n workers)) → TellsTo slot count world tells world
  unfolding Shows
  tells-down tells disks is told = λ old shows. (old, shows, tells-down-of tells disks told old (subst (λ (p : Place D). Shown slot count world.config world.slots p old) is shows))

  -- ---- its engine

  engine-up-of : (engine : Bor Serving) (s : Standing) → Shown slot count world.config world.slots (place.Up engine.now) s → IsEngineOf (Some engine) s
  unfolding Shown IsEngineOf
  engine-up-of engine (Up m slots) s = s.0
  engine-up-of engine (Down n workers) s = absurd s

  engine-up : (engine : Bor Serving) → world.place ≡ place.Up engine.now → (s : Standing) → Shows slot count world s → IsEngineOf (Some engine) s
  unfolding Shows
  engine-up engine is s shows = engine-up-of engine s (subst (λ (p : Place D). Shown slot count world.config world.slots p s) is shows)

  -- an engine that is what is up
  pub engine-in : (engine : Bor Serving) (standby : Serving) → world.place ≡ place.Up standby → engine.now ≡ standby → (s : Standing) → Shows slot count world s
      → IsEngineOf (Some engine) s
  engine-in engine standby is same = engine-up engine (subst (λ (e : Serving). world.place ≡ place.Up e) (sym same) is)

  engine-down-of : (disks : Disks D) (s : Standing) → Shown slot count world.config world.slots (place.Down disks) s → IsEngineOf None s
  unfolding Shown IsEngineOf
  engine-down-of disks (Up m slots) s = absurd s
  engine-down-of disks (Down n workers) s = tt

  pub engine-down : (disks : Disks D) → world.place ≡ place.Down disks → (s : Standing) → Shows slot count world s → IsEngineOf None s
  unfolding Shows
  engine-down disks is s shows = engine-down-of disks s (subst (λ (p : Place D). Shown slot count world.config world.slots p s) is shows)

-- ---- what it tells, case by case

pub told-page : (old : Machine) (slots : List (Option Leased)) (page : ℕ) (shown : Page) (new : Machine) → ShowsPage old page (Ok shown) new
    → TellsPage (Up old slots) page (Ok (Some shown)) (Up new slots)
unfolding TellsPage
told-page old slots page shown new s = (s, refl)

pub told-no-page : (old : Machine) (slots : List (Option Leased)) (page : ℕ) → old.held.pages ≤ page → TellsPage (Up old slots) page (Ok None) (Up old slots)
unfolding TellsPage
told-no-page old slots page past = (past, refl, refl)

pub told-fault : (old : Machine) (slots : List (Option Leased)) (page : ℕ) (cause : Fault) (new : Machine) → ShowsPage old page (Err cause) new
    → TellsPage (Up old slots) page (Err cause) (Up new slots)
unfolding TellsPage
told-fault old slots page cause new s = (s, refl)

pub told-down : (page : ℕ) (n : Node) (workers : ℕ) → TellsPage (Down n workers) page (Err fault.Stopped) (Down n workers)
unfolding TellsPage
told-down page n workers = (refl, refl, refl)

pub told-record : (old : Machine) (slots : List (Option Leased)) (lsn : Lsn) (answer : Result (Option Record) Fault) (new : Machine) → Reads old lsn answer new
    → TellsRecord (Up old slots) lsn answer (Up new slots)
unfolding TellsRecord
told-record old slots lsn answer new r = (r, refl)

pub told-record-down : (lsn : Lsn) (n : Node) (workers : ℕ) → TellsRecord (Down n workers) lsn (Err fault.Stopped) (Down n workers)
unfolding TellsRecord
told-record-down lsn n workers = (refl, refl, refl)
