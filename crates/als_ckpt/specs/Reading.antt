-- Control blocks and checkpoints read back from a device that was synced.
use Rattle.std.specs.Prelude.{◌≡◌, ◌≢◌, ℕ, ◌<◌, ◌+◌, ◌*◌, List, length, take, drop, Option, Result, Ok, Err}
use Rattle.als_disk.specs.Slot.{Slot, only}
use Rattle.als_ckpt_codec.specs.declared.checkpoint.Checkpoint.{Checkpoint}
use Rattle.als_ckpt.specs.declared.fault.Fault.{Fault}
use Rattle.als_ckpt.specs.declared.fault.Fault.TheVariants.{Device, BadControl, Memory, NothingToDo, CkptBusy, LogBehind}
use Rattle.als_ckpt.specs.Regions.{Said, held_of}
use Rattle.als_ckpt.specs.Control.{Controlled, new_control}
use Rattle.als_ckpt.specs.Holding.{HoldsControl}

-- a control block over a synced device that says this
abbrev pub taken_up : ℕ → ℕ → Said → ℕ → ℕ → ℕ → Controlled
taken_up pages log_bytes said blocks failures attempts =
    record (new_control pages log_bytes said.state blocks failures attempts) { held = held_of said.state.published said.checkpoint }

-- The device says this, and that is what was taken up, with its checkpoint.
pub record TakesUp (pages log_bytes : ℕ) (slots : ℕ → Slot) (blocks failures attempts : ℕ)
    (control : Controlled) (checkpoint : Option Checkpoint) : Type 0 where
  pub said : Said
  pub holds : HoldsControl pages log_bytes slots said
  pub control_is : control ≡ taken_up pages log_bytes said blocks failures attempts
  pub checkpoint_is : checkpoint ≡ said.checkpoint

-- why a device that says something is not taken up: it has failed, or an allocation failed
abbrev pub FailsToRead : Fault → ℕ → ℕ → Type 0
FailsToRead Device before now = before < now
FailsToRead Memory before now = now ≡ before
FailsToRead BadControl before now = ⊥
FailsToRead NothingToDo before now = ⊥
FailsToRead CkptBusy before now = ⊥
FailsToRead LogBehind before now = ⊥

-- why no device is taken up: for these causes, or it says nothing
abbrev pub RefusesToRead : Fault → ℕ → ℕ → (ℕ → Slot) → ℕ → ℕ → Type 0
RefusesToRead Device pages log_bytes slots before now = before < now
RefusesToRead Memory pages log_bytes slots before now = now ≡ before
RefusesToRead BadControl pages log_bytes slots before now = ((said : Said) → HoldsControl pages log_bytes slots said → ⊥) × (now ≡ before)
RefusesToRead NothingToDo pages log_bytes slots before now = ⊥
RefusesToRead CkptBusy pages log_bytes slots before now = ⊥
RefusesToRead LogBehind pages log_bytes slots before now = ⊥

-- what was read is this, or the device has failed or an allocation failed
abbrev pub Gives : {X : Type 0} → X → Result X Fault → Type 0
Gives x (Ok found) = found ≡ x
Gives x (Err fault) = fault ≢ BadControl

-- why nothing was read: the device has failed, what stands there is not what it should be, or an allocation failed
abbrev pub Fails : Fault → ℕ → ℕ → Type 0
Fails Device before now = before < now
Fails BadControl before now = now ≡ before
Fails Memory before now = now ≡ before
Fails NothingToDo before now = ⊥
Fails CkptBusy before now = ⊥
Fails LogBehind before now = ⊥

-- These bytes stand in so many synced blocks from one on.
pub record StandIn (slots : ℕ → Slot) (first count : ℕ) (bytes : List ℕ) : Type 0 where
  pub len : length bytes ≡ 512 * count
  pub blocks : (k : ℕ) → k < count → slots (first + k) ≡ only (take 512 (drop (512 * k) bytes))
