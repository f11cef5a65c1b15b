-- What the control block of a node says that was taken back to an LSN.
use Rattle.std.specs.Prelude.{ℕ, List, None}
use Rattle.als_record.specs.declared.record.Record.{Record}
use Rattle.als_record.specs.LogText.{end_of}
use Rattle.als_ckpt.specs.declared.phase.Phase.TheVariants.{Following}
use Rattle.als_ckpt.specs.declared.control_state.ControlState.{ControlState}
use Rattle.als_ckpt.specs.Regions.{Said}
use Rattle.als_reopen.specs.Node.{Node}

-- the log follows a source and is acknowledged up to there; no checkpoint is published
abbrev pub front_state : List ℕ → ℕ → ControlState
front_state history mark = record {
  phase = Following;
  published = None;
  mark = record { 0 = mark };
  position = record { 0 = 0 };
  seal = record { 0 = 0 };
  history = history;
}

abbrev pub front_said : List ℕ → ℕ → Said
front_said history mark = record { state = front_state history mark; checkpoint = None }

-- the node that holds a front of a log
abbrev pub front_node : ℕ → List ℕ → List Record → Node
front_node blocks history front = record { blocks = blocks; said = front_said history (end_of front); log = front }
