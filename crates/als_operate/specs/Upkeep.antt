-- What is done with a standby beside following: its pages are written, and checkpoints are taken.
use Rattle.std.specs.Prelude.{◌≡◌, ◌≤◌, ◌⊎◌, ℕ, [], Option, Some, None, Err}
use Rattle.als_record.specs.LogText.{end_of}
use Rattle.als_ckpt.specs.Regions.{held_at}
use Rattle.als_store.specs.Stored.{acknowledged}
use Rattle.als_store.specs.Checkpoints.{checkpoint_of}
use Rattle.als_dirty.specs.Rows.{IsNextRow}
use Rattle.als_engine.specs.declared.fault.Fault.{Fault}
use Rattle.als_engine.specs.declared.fault.Fault.TheVariants.{CkptBusy}
use Rattle.als_engine.specs.Machine.{Machine}
use Rattle.als_engine.specs.Events.{FlushesOne, PagesSync, ControlSyncs}
use Rattle.als_engine.specs.Checkpointing.{CkptBegins, CkptWrites, CkptPublishes}
use Rattle.als_engine.specs.Publishing.{PublishesView}
use Rattle.als_drive.specs.Driving.{IsDrained, RedoRefused}

-- the published checkpoint is that of the whole held log and of its pages as they are, and the control block that publishes it is
-- synced
pub record IsCheckpointed (m : Machine) : Type 0 where
  pub published : held_at m.held.held m.held.control.published ≡ Some (checkpoint_of m.held.log m.held.pool)
  pub synced : m.held.since ≡ []

-- a checkpoint was not taken: one of its events was refused; it has fewer than 2^64 blocks
abbrev pub CheckpointRefused : Fault → Machine → Type 0
CheckpointRefused cause new =
    (cause ≡ CkptBusy) ⊎ ((old : Machine) × (CkptBegins old (Err cause) new ⊎ (CkptWrites old (Err cause) new ⊎ (CkptPublishes old (Err cause) new ⊎ ControlSyncs old (Err cause) new))))

-- the pages were not written, or no checkpoint was taken
abbrev pub StoreRefused : Fault → Machine → Type 0
StoreRefused cause new =
    CheckpointRefused cause new ⊎ ((old : Machine) × (PagesSync old (Err cause) new ⊎ ((page : ℕ) × FlushesOne old page (Err cause) new)))

-- the upkeep between two frames was refused: an event of it was
abbrev pub UpkeepRefused : Fault → Machine → Type 0
UpkeepRefused cause new = StoreRefused cause new ⊎ (RedoRefused cause new ⊎ ((old : Machine) × PublishesView old (Err cause) new))

-- nothing waits for redo, no page is dirty, and the log is acknowledged to its end
pub record IsQuiet (m : Machine) : Type 0 where
  pub drained : IsDrained m
  pub clean : IsNextRow m.held.pool.dirty 0 None
  pub stable : end_of m.held.log ≤ acknowledged m.held

-- and the published checkpoint is that of all of it: the next opening has nothing to redo
abbrev pub IsSettled : Machine → Type 0
IsSettled m = IsQuiet m × IsCheckpointed m
