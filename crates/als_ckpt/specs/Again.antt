-- Control states that are written while the node is stopped: seals that the log never reached go away, and a primary follows again.
use Rattle.std.specs.Prelude.{◌≡◌, ◌⊎◌, ℕ, ◌+◌, List, [], ◌∷◌, None, nat_lt, if◌then◌else◌}
use Rattle.als_disk.specs.Slot.{Slot, KeepsCandidate}
use Rattle.als_ckpt.specs.declared.phase.Phase.{Phase}
use Rattle.als_ckpt.specs.declared.phase.Phase.TheVariants.{Following, Sealed, Primary}
use Rattle.als_ckpt.specs.declared.unreached.Unreached.{Unreached}
use Rattle.als_ckpt.specs.declared.unreached.Unreached.TheVariants.{AboveEnd, FromEnd}
use Rattle.als_ckpt.specs.declared.control_state.ControlState.{ControlState}
use Rattle.als_ckpt.specs.Regions.{Said, IsPublished, HoldsPublished}
use Rattle.als_ckpt.specs.Control.{IsControlState}
use Rattle.als_ckpt.specs.Holding.{HoldsControl}

-- the seals in front of the first that is not below a bound
abbrev pub seals_below : ℕ → List ℕ → List ℕ
seals_below bound [] = []
seals_below bound (seal ∷ rest) = if nat_lt seal bound then seal ∷ seals_below bound rest else []

-- from where on a seal is not reached, for a log that ends there
abbrev pub bound_of : Unreached → ℕ → ℕ
bound_of AboveEnd end = end + 1
bound_of FromEnd end = end

-- the history that a phase leaves: all seals from a bound on are forgotten while the log follows its source, and none later
abbrev pub history_left : Phase → ℕ → List ℕ → List ℕ
history_left Following bound history = seals_below bound history
history_left Sealed bound history = history
history_left Primary bound history = history

-- the state without the seals that the log has not reached
abbrev pub forgetting : Unreached → ControlState → ControlState
forgetting which s = record s { history = history_left s.phase (bound_of which s.mark.0) s.history }

-- the state of a primary that follows a source again: it has no seal of its own, and its history stays
abbrev pub following_again : ControlState → ControlState
following_again s = record s { phase = Following; seal = record { 0 = 0 } }

-- the same of a primary alone
abbrev pub followed_by : Phase → ControlState → ControlState
followed_by Following s = s
followed_by Sealed s = s
followed_by Primary s = following_again s

abbrev pub followed : ControlState → ControlState
followed s = followed_by s.phase s

-- what the device says, with another state
abbrev pub saying : Said → ControlState → Said
saying said s = record said { state = s }

-- whatever a crash leaves of the blocks says this
abbrev pub LeavesSaid : ℕ → ℕ → (ℕ → Slot) → Said → Type 0
LeavesSaid pages log_bytes slots said = (left : ℕ → Slot) → ((k : ℕ) → KeepsCandidate (slots k) (left k)) → HoldsControl pages log_bytes left said

-- whatever a crash leaves of the blocks says one of the two
abbrev pub LeavesEither : ℕ → ℕ → (ℕ → Slot) → Said → Said → Type 0
LeavesEither pages log_bytes slots before after
    = (left : ℕ → Slot) → ((k : ℕ) → KeepsCandidate (slots k) (left k)) → HoldsControl pages log_bytes left before ⊎ HoldsControl pages log_bytes left after

-- the state of a node whose pages are laid out anew: it publishes no checkpoint, so a restart redoes its whole log
abbrev pub without_checkpoint : ControlState → ControlState
without_checkpoint s = record s { published = None; position = record { 0 = 0 } }

-- what the device says then
abbrev pub unpublished : Said → Said
unpublished said = record { state = without_checkpoint said.state; checkpoint = None }

-- The format admits what is to be said in the place of what the device says, and a region holds the checkpoint that it publishes.
pub record MayRestate (pages log_bytes : ℕ) (before : ControlState) (slots : ℕ → Slot) (said told : Said) : Type 0 where
  pub holds : HoldsControl pages log_bytes slots said
  pub says : before ≡ said.state
  pub fits : IsControlState log_bytes told.state
  pub published : IsPublished pages told.state.published told.state.position.0 told.checkpoint
  pub region : HoldsPublished slots told.state.published told.checkpoint

-- then the device says it, once its state is written
abbrev pub Restates : ℕ → ControlState → ControlState → (ℕ → Slot) → (ℕ → Slot) → Type 0
Restates pages before after old new
    = (log_bytes : ℕ) (said told : Said) → after ≡ told.state → MayRestate pages log_bytes before old said told → HoldsControl pages log_bytes new told

-- or a crash leaves one of the two
abbrev pub RestatesOrNot : ℕ → ControlState → ControlState → (ℕ → Slot) → (ℕ → Slot) → Type 0
RestatesOrNot pages before after old new
    = (log_bytes : ℕ) (said told : Said) → after ≡ told.state → MayRestate pages log_bytes before old said told → LeavesEither pages log_bytes new said told
