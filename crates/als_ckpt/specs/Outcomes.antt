-- When a call on a checkpoint is refused, and what it leaves then.
use Rattle.std.specs.Prelude.{◌≡◌, ℕ, ◌<◌, ◌≤◌, ◌+◌, false, Option, None, IsSomeAnd}
use Rattle.als_ckpt.specs.declared.fault.Fault.{Fault}
use Rattle.als_ckpt.specs.declared.fault.Fault.TheVariants.{Device, BadControl, Memory, NothingToDo, CkptBusy, LogBehind}
use Rattle.als_ckpt.specs.Regions.{Begun, HasBlockLeft, IsWhole, position_of}
use Rattle.als_ckpt.specs.Control.{Controlled, IsBusy, published}

-- no checkpoint was begun: one is already or the last publish is not synced; or, where neither is so, an allocation failed
abbrev pub RefusesBegin : Fault → Controlled → Controlled → Type 0
RefusesBegin CkptBusy old new = IsBusy old × (new ≡ old)
RefusesBegin Memory old new = (IsBusy old → ⊥) × (new ≡ old)
RefusesBegin NothingToDo old new = ⊥
RefusesBegin LogBehind old new = ⊥
RefusesBegin Device old new = ⊥
RefusesBegin BadControl old new = ⊥

-- a checkpoint is begun, and a block of it is not written
abbrev pub HasNext : Controlled → Type 0
HasNext control = IsSomeAnd control.begun HasBlockLeft

-- the one write that was made has failed, and nothing else has changed
pub record BlockFails (old new : Controlled) : Type 0 where
  pub failed : old.failures < new.failures
  pub same : new ≡ record old { failures = new.failures; attempts = old.attempts + 1 }

-- no block was written: there was none to write, or the device failed
abbrev pub RefusesNext : Fault → Controlled → Controlled → Type 0
RefusesNext NothingToDo old new = (HasNext old → ⊥) × (new ≡ old)
RefusesNext Device old new = HasNext old × BlockFails old new
RefusesNext Memory old new = ⊥
RefusesNext CkptBusy old new = ⊥
RefusesNext LogBehind old new = ⊥
RefusesNext BadControl old new = ⊥

-- a checkpoint is whole and synced, and the log is acknowledged up to its position
abbrev pub IsReady : Controlled → Begun → Type 0
IsReady control b = IsWhole b × (position_of b ≤ control.synced.mark.0)

-- it was published
abbrev pub Publishes : Controlled → Begun → Controlled → Type 0
Publishes old b new = IsReady old b × (new ≡ published old b)

-- the write of its control block has failed, and a crash may leave that block all the same
pub record PublishFails (old : Controlled) (b : Begun) (new : Controlled) : Type 0 where
  pub ready : IsReady old b
  pub failed : old.failures < new.failures
  pub after : new ≡ record (published old b) { sure = false; failures = new.failures }

-- nothing was published: none is begun; a block of it is not written and synced; the log is acknowledged short of its position;
-- or the device failed
abbrev pub RefusesPublish : Fault → Controlled → Controlled → Type 0
RefusesPublish NothingToDo old new = (old.begun ≡ None) × (new ≡ old)
RefusesPublish CkptBusy old new = IsSomeAnd old.begun (λ b. IsWhole b → ⊥) × (new ≡ old)
RefusesPublish LogBehind old new = IsSomeAnd old.begun (λ b. IsWhole b × (old.synced.mark.0 < position_of b)) × (new ≡ old)
RefusesPublish Device old new = IsSomeAnd old.begun (λ b. PublishFails old b new)
RefusesPublish Memory old new = ⊥
RefusesPublish BadControl old new = ⊥

-- why a checkpoint that may be begun can't be published yet, for a log that is acknowledged up to a mark
abbrev pub IsNotReady : Fault → ℕ → Option Begun → Type 0
IsNotReady NothingToDo mark begun = begun ≡ None
IsNotReady CkptBusy mark begun = IsSomeAnd begun (λ b. IsWhole b → ⊥)
IsNotReady LogBehind mark begun = IsSomeAnd begun (λ b. IsWhole b × (mark < position_of b))
IsNotReady Device mark begun = ⊥
IsNotReady Memory mark begun = ⊥
IsNotReady BadControl mark begun = ⊥
