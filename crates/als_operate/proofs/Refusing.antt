-- Why the upkeep of a standby was refused.
use Rattle.std.proofs.Common.{◌≡◌, ℕ, Err, refl, inl, inr}
use Rattle.als_engine.specs.declared.fault.Fault.{Fault}
use Rattle.als_engine.specs.declared.fault.Fault.TheVariants.{CkptBusy}
use Rattle.als_engine.specs.Machine.{Machine}
use Rattle.als_engine.specs.Events.{FlushesOne, PagesSync, ControlSyncs}
use Rattle.als_engine.specs.Checkpointing.{CkptBegins, CkptWrites, CkptPublishes}
use Rattle.als_engine.specs.Publishing.{PublishesView}
use Rattle.als_drive.specs.Driving.{RedoRefused}
use Rattle.als_operate.specs.Upkeep.{CheckpointRefused, StoreRefused, UpkeepRefused}

pub begin_refused : (cause : Fault) (old new : Machine) → CkptBegins old (Err cause) new → CheckpointRefused cause new
begin_refused cause old new e = inr (old, inl e)

pub block_refused : (cause : Fault) (old new : Machine) → CkptWrites old (Err cause) new → CheckpointRefused cause new
block_refused cause old new e = inr (old, inr (inl e))

pub publish_refused : (cause : Fault) (old new : Machine) → CkptPublishes old (Err cause) new → CheckpointRefused cause new
publish_refused cause old new e = inr (old, inr (inr (inl e)))

pub control_refused : (cause : Fault) (old new : Machine) → ControlSyncs old (Err cause) new → CheckpointRefused cause new
control_refused cause old new e = inr (old, inr (inr (inr e)))

pub blocks_spent : (new : Machine) → CheckpointRefused CkptBusy new
blocks_spent new = inl refl

pub checkpoint_refused : (cause : Fault) (new : Machine) → CheckpointRefused cause new → StoreRefused cause new
checkpoint_refused cause new e = inl e

pub sync_refused : (cause : Fault) (old new : Machine) → PagesSync old (Err cause) new → StoreRefused cause new
sync_refused cause old new e = inr (old, inl e)

pub flush_refused : (cause : Fault) (page : ℕ) (old new : Machine) → FlushesOne old page (Err cause) new → StoreRefused cause new
flush_refused cause page old new e = inr (old, inr (page, e))

pub store_refused : (cause : Fault) (new : Machine) → StoreRefused cause new → UpkeepRefused cause new
store_refused cause new e = inl e

pub redo_refused : (cause : Fault) (new : Machine) → RedoRefused cause new → UpkeepRefused cause new
redo_refused cause new e = inr (inl e)

pub view_refused : (cause : Fault) (old new : Machine) → PublishesView old (Err cause) new → UpkeepRefused cause new
view_refused cause old new e = inr (inr (old, e))
