-- What the blocks of a control device hold.
use Rattle.std.specs.Prelude.{ℕ}
use Rattle.als_disk.specs.Slot.{Slot, KeepsCandidate}
use Rattle.als_ckpt.specs.declared.control_state.ControlState.{ControlState}
use Rattle.als_ckpt.specs.Regions.{Said, IsPublished, HoldsPublished}
use Rattle.als_ckpt.specs.Control.{Controlled, HoldsState, IsControlState, IsAmong, said_of}

-- A control device says this: block 0 spells the state and holds nothing else, and the region that it names holds the
-- checkpoint, which stands at the state's position.
pub record HoldsControl (pages log_bytes : ℕ) (slots : ℕ → Slot) (said : Said) : Type 0 where
  pub block : HoldsState pages (slots 0) said.state
  pub fits : IsControlState log_bytes said.state
  pub published : IsPublished pages said.state.published said.state.position.0 said.checkpoint
  pub region : HoldsPublished slots said.state.published said.checkpoint

-- Stopped blocks hold a state that was synced or written since, and its whole checkpoint.
pub record HoldsOneOf (control : Controlled) (slots : ℕ → Slot) : Type 0 where
  pub state : ControlState
  pub among : IsAmong control state
  pub holds : HoldsControl control.pages control.log_bytes slots (said_of control state)

-- Whatever a crash leaves of the blocks holds one of these states, and its whole checkpoint.
abbrev pub LeavesOneOf : Controlled → (ℕ → Slot) → Type 0
LeavesOneOf control slots = (left : ℕ → Slot) → ((k : ℕ) → KeepsCandidate (slots k) (left k)) → HoldsOneOf control left
