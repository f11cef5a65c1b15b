-- What the events of a checkpoint make of a store, and when they are refused.
use Rattle.std.specs.Prelude.{◌≡◌, ◌≢◌, ◌⊎◌, ◌+◌, ◌<◌, ◌≤◌, true, [], ◌∷◌, ◌++◌, None, Some}
use Rattle.std.specs.Prelude.{IsSomeAnd}
use Rattle.als_ckpt.specs.declared.control_state.ControlState.{ControlState}
use Rattle.als_ckpt.specs.Control.{publishing}
use Rattle.als_ckpt.specs.Regions.{Begun, HasBlockLeft, IsWhole, position_of, next_region}
use Rattle.als_ckpt.specs.Regions.{with_held, block_written}
use Rattle.als_store.specs.declared.fault.Fault.{Fault}
use Rattle.als_store.specs.declared.fault.Fault.TheVariants as fault
use Rattle.als_store.specs.Stored.{Stored, newest, acknowledged}
use Rattle.als_store.specs.Checkpoints.{checkpoint_of}
use Rattle.als_store.specs.Events.{Breaks}

-- a checkpoint is begun, or the last publish is not synced
abbrev pub IsBusy : Stored → Type 0
IsBusy s = (s.begun ≢ None) ⊎ ((newest s).published ≢ s.control.published)

-- A checkpoint is begun: that of the log and of the pages as they are now. None of its blocks is
-- written, and it goes to the region that is not published, which holds no checkpoint any more.
pub record BeginsCheckpoint (old new : Stored) : Type 0 where
  pub free : IsBusy old → ⊥
  pub after : new ≡ record old {
    held = with_held old.held (next_region (newest old).published) None;
    begun = Some (record {
      region = next_region (newest old).published;
      checkpoint = checkpoint_of old.log old.pool;
      written = 0;
      synced = 0;
    });
  }

-- none is begun: one is already or the last publish is not synced, or else an allocation failed
abbrev pub NotBegun : Stored → Fault → Stored → Type 0
NotBegun old fault.CkptBusy new = IsBusy old × (new ≡ old)
NotBegun old fault.Memory new = (IsBusy old → ⊥) × (new ≡ old)
NotBegun old fault new = ⊥

-- a checkpoint is begun, and a block of it is not written
abbrev pub HasBlock : Stored → Type 0
HasBlock s = IsSomeAnd s.begun HasBlockLeft

-- its next block is written, by one write
pub record WritesBlock (old new : Stored) : Type 0 where
  pub left : HasBlock old
  pub after : new ≡ record old { begun = block_written old.begun; attempts = old.attempts + 1 }

-- no block is written: there is none to write, or the device failed
abbrev pub NoBlock : Stored → Fault → Stored → Type 0
NoBlock old fault.NothingToDo new = (HasBlock old → ⊥) × (new ≡ old)
NoBlock old fault.Device new = HasBlock old × Breaks old new
NoBlock old fault new = ⊥

-- a checkpoint is whole and synced, and the log is acknowledged up to its position
abbrev pub CanPublish : Stored → Begun → Type 0
CanPublish s b = IsWhole b × (position_of b ≤ acknowledged s)

-- the newest control state, with the checkpoint as the published one
abbrev pub with_checkpoint : Stored → Begun → ControlState
with_checkpoint s b = publishing (newest s) b

-- a checkpoint is published, by one write of the control block
pub record Publishes (old : Stored) (b : Begun) (new : Stored) : Type 0 where
  pub can : CanPublish old b
  pub after : new ≡ record old {
    since = old.since ++ with_checkpoint old b ∷ [];
    held = with_held old.held b.region (Some b.checkpoint);
    begun = None;
    attempts = old.attempts + 1;
  }

-- that write failed: a crash may leave the state all the same
pub record BreaksPublish (old : Stored) (b : Begun) (new : Stored) : Type 0 where
  pub can : CanPublish old b
  pub failed : old.failures < new.failures
  pub after : new ≡ record old {
    since = old.since ++ with_checkpoint old b ∷ [];
    held = with_held old.held b.region (Some b.checkpoint);
    begun = None;
    broken = true;
    failures = new.failures;
    attempts = old.attempts + 1;
  }

-- nothing is published: none is begun; a block of it is not written and synced; the log is
-- acknowledged short of its position; or the device failed
abbrev pub NotPublished : Stored → Fault → Stored → Type 0
NotPublished old fault.NothingToDo new = (old.begun ≡ None) × (new ≡ old)
NotPublished old fault.CkptBusy new = IsSomeAnd old.begun (λ b. IsWhole b → ⊥) × (new ≡ old)
NotPublished old fault.LogBehind new =
    IsSomeAnd old.begun (λ b. IsWhole b × (acknowledged old < position_of b)) × (new ≡ old)
NotPublished old fault.Device new = IsSomeAnd old.begun (λ b. BreaksPublish old b new)
NotPublished old fault new = ⊥
