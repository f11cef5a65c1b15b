-- Nodes of which another control state was written while they were stopped.
use Rattle.als_ckpt.specs.declared.control_state.ControlState.{ControlState}
use Rattle.als_ckpt.specs.Again.{saying, unpublished}
use Rattle.als_reopen.specs.Node.{Node}

-- the node with another control state
abbrev pub restated : Node → ControlState → Node
restated n s = record n { said = saying n.said s }

-- the node without its checkpoint
abbrev pub unchecked : Node → Node
unchecked n = record n { said = unpublished n.said }
