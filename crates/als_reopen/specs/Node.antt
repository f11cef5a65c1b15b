-- What the three devices of a standby hold while nothing runs.
use Rattle.std.specs.Prelude.{◌≡◌, ℕ, ◌+◌, ◌*◌, ◌≤◌, List, [], Option, None, Some, IfSome}
use Rattle.als_record.specs.declared.lsn.Lsn.{Lsn}
use Rattle.als_record.specs.declared.record.Record.{Record}
use Rattle.als_record.specs.declared.rows.LoggedPage.{LoggedPage}
use Rattle.als_record.specs.LogText.{log_text, end_of}
use Rattle.als_record.specs.Tail.{reserve_of}
use Rattle.als_record.specs.Validity.{IsValidLog}
use Rattle.als_disk.specs.Slot.{Slot}
use Rattle.als_log.specs.Texts.{AllHaveText}
use Rattle.als_ckpt_codec.specs.declared.checkpoint.Checkpoint.{Checkpoint}
use Rattle.als_ckpt.specs.Regions.{Said}
use Rattle.als_ckpt.specs.Holding.{HoldsControl}
use Rattle.als_tables.specs.Fronts.{IsOfFront}
use Rattle.als_pool.specs.Restart.{HoldsImagesFrom}
use Rattle.als_reopen.specs.Taken.{IsTakenFrom}

-- What stopped devices hold: a control state with the checkpoint that it publishes, and a log, on a device of so many blocks.
pub record Node : Type 0 where
  pub blocks : ℕ
  pub said : Said
  pub log : List Record

-- where restart begins to look for what pages lack: the checkpoint's position, else that of the first record
abbrev pub position_of : Option Checkpoint → Lsn
position_of None = record { 0 = 16 }
position_of (Some c) = c.numbers.position

-- the dirty pages of the checkpoint, none without one
abbrev pub rows_of : Option Checkpoint → List LoggedPage
rows_of None = []
rows_of (Some c) = c.pages

-- the same of what a control device says
abbrev pub position_in : Said → Lsn
position_in said = position_of said.checkpoint

abbrev pub rows_in : Said → List LoggedPage
rows_in said = rows_of said.checkpoint

-- The control device says the control state and its checkpoint. The text of the log stands below the mark, which is its end; the log is
-- valid, and it fits the log device with its reserve. The checkpoint is that of a front of the log.
pub record HoldsLog (pages blocks : ℕ) (log_slots control_slots : ℕ → Slot) (n : Node) : Type 0 where
  pub count : n.blocks ≡ blocks
  pub control : HoldsControl pages (512 * blocks) control_slots n.said
  pub text : AllHaveText (λ b. (log_slots b).candidates) (log_text pages n.log) (end_of n.log)
  pub ends : end_of n.log ≡ n.said.state.mark.0
  pub valid : IsValidLog pages n.log
  pub fits : end_of n.log + reserve_of n.log ≤ 512 * blocks
  pub front : IfSome n.said.checkpoint (IsOfFront n.log)

-- And the log is what the control state says of it, and the block of each page has an image of the page, which lacks no change of the
-- log from before where a restart looks for it.
pub record IsNode (pages blocks : ℕ) (log_slots control_slots page_slots : ℕ → Slot) (n : Node) : Type 0 where
  pub held : HoldsLog pages blocks log_slots control_slots n
  pub taken : IsTakenFrom n.log n.said.state
  pub images : HoldsImagesFrom n.log n.said.state.mark.0 pages (position_in n.said) (rows_in n.said) page_slots
