-- What a world answers to who asks it.
use Rattle.std.specs.Prelude.{◌≡◌, ℕ, ◌≤◌, ⊤, Option, Some, None, Result, Ok, Err}
use Rattle.std.specs.Borrow.{Bor}
use Rattle.als_record.specs.declared.lsn.Lsn.{Lsn}
use Rattle.als_record.specs.declared.record.Record.{Record}
use Rattle.als_page.specs.declared.page.Page.{Page}
use Rattle.als_disk.specs.Slot.{Slot}
use Rattle.als_engine.specs.declared.fault.Fault.{Fault}
use Rattle.als_engine.specs.declared.fault.Fault.TheVariants as fault
use Rattle.als_engine.specs.Events.{Reads, ShowsPage}
use Rattle.als_engine.specs.Serving.{Serving}
use Rattle.als_world.specs.declared.world.World.{World}
use Rattle.als_world.specs.Standing.{Standing, Up, Down, Shows}

-- the engine while the world is up, and none while it is down
unfoldable pub IsEngineOf : Option (Bor Serving) → Standing → Type 0
IsEngineOf (Some engine) (Up m leases) = m ≡ engine.now.machine
IsEngineOf None (Down n workers) = ⊤
IsEngineOf (Some engine) (Down n workers) = ⊥
IsEngineOf None (Up m leases) = ⊥

-- The page as the engine shows it; none past the page count, and then nothing changes. While the world is down, Stopped, and nothing changes. The
-- slots stay as they are.
unfoldable pub TellsPage : Standing → ℕ → Result (Option Page) Fault → Standing → Type 0
TellsPage (Up old slots) page (Ok (Some shown)) (Up new after) = ShowsPage old page (Ok shown) new × (after ≡ slots)
TellsPage (Up old slots) page (Ok None) (Up new after) = (old.held.pages ≤ page) × (new ≡ old) × (after ≡ slots)
TellsPage (Up old slots) page (Err cause) (Up new after) = ShowsPage old page (Err cause) new × (after ≡ slots)
TellsPage (Down old slots) page (Err cause) (Down new after) = (cause ≡ fault.Stopped) × (new ≡ old) × (after ≡ slots)
TellsPage _ _ _ _ = ⊥

-- The record as the engine reads it. While the world is down, Stopped, and nothing changes. The slots stay as they are.
unfoldable pub TellsRecord : Standing → Lsn → Result (Option Record) Fault → Standing → Type 0
TellsRecord (Up old slots) lsn answer (Up new after) = Reads old lsn answer new × (after ≡ slots)
TellsRecord (Down old slots) lsn (Err cause) (Down new after) = (cause ≡ fault.Stopped) × (new ≡ old) × (after ≡ slots)
TellsRecord _ _ _ _ = ⊥

-- For what a world shows there is what it shows once it has told so much.
abbrev pub TellsTo : {D : Type 0} → (D → ℕ → Slot) → (D → ℕ) → World D → (Standing → Standing → Type 0) → World D → Type 0
TellsTo slot count before tells after = (old : Standing) → Shows slot count before old → (new : Standing) × Shows slot count after new × tells old new
