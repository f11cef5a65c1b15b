-- What the log, the control block, the checkpoints and the pages of a store were when it was made.
use Rattle.std.specs.Prelude.{List, Option}
use Rattle.als_record.specs.declared.record.Record.{Record}
use Rattle.als_log.specs.Local.{Local}
use Rattle.als_ckpt.specs.declared.control_state.ControlState.{ControlState}
use Rattle.als_ckpt.specs.Control.{Controlled}
use Rattle.als_ckpt.specs.Regions.{Held, Begun}
use Rattle.als_pool.specs.Pooled.{Pooled}

-- the records; the synced control state, and those written since; the checkpoints; and the pages
pub record Origin : Type 0 where
  pub log : List Record
  pub control : ControlState
  pub since : List ControlState
  pub held : Held
  pub begun : Option Begun
  pub pool : Pooled

-- the same of the parts
abbrev pub origin_of : Local → Controlled → Pooled → Origin
origin_of l c pool = record {
  log = l.log;
  control = c.synced;
  since = c.since;
  held = c.held;
  begun = c.begun;
  pool = pool;
}
