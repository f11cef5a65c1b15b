-- The control states that were written since the last sync.
use Rattle.std.specs.Prelude.{Bool, true, false, List, [], ◌∷◌, ◌++◌}
use Rattle.als_ckpt.specs.declared.control_state.ControlState.{ControlState}
use Rattle.als_ckpt.specs.declared.made.Made.{Made}
use Rattle.als_ckpt.specs.declared.made.Made.TheVariants.{Nothing, Done', Failed'}
use Rattle.als_ckpt.specs.declared.writes.Writes.{Writes}

-- the states of writes, oldest first
abbrev pub made_states : Made → List ControlState
made_states Nothing = []
made_states (Done' mark before state) = made_states before ++ state.value ∷ []
made_states (Failed' mark before state) = made_states before ++ state.value ∷ []

-- whether none of them failed
abbrev pub all_done : Made → Bool
all_done Nothing = true
all_done (Done' mark before state) = all_done before
all_done (Failed' mark before state) = false

-- the same of those since the last sync
abbrev pub states_of : Writes → List ControlState
states_of w = made_states w.made.value

abbrev pub is_sure : Writes → Bool
is_sure w = all_done w.made.value
