-- The parts of a store, and what holds between them.
use Rattle.std.specs.Prelude.{◌≡◌, ℕ, ◌≤◌, ◌+◌, ◌*◌, Bool, true, false, IsTrue, List, length}
use Rattle.als_record.specs.declared.record.Record.{Record}
use Rattle.als_record.specs.LogText.{end_of}
use Rattle.als_record.specs.Validity.{IsValidLog}
use Rattle.als_validator.specs.declared.validator.Validator.{Validator}
use Rattle.als_validator.specs.Validated.{IsValidatorOf, judges, has_room}
use Rattle.als_log.specs.Local.{Local, IsFrontEnd}
use Rattle.als_ckpt.specs.declared.control_state.ControlState.{ControlState}
use Rattle.als_ckpt.specs.Control.{Controlled, newest, IsAmong}
use Rattle.als_pool.specs.Queues.{total_waiting}
use Rattle.als_pool.specs.Pooled.{Pooled, Room}
use Rattle.als_pool.specs.Bounds.{EndsBelow}
use Rattle.als_store.specs.Stored.{Stored, FrontsFit}
use Rattle.als_tables.specs.declared.commit_count.CommitCount.{CommitCount}
use Rattle.als_tables.specs.Counting.{IsCountOf}
use Rattle.als_store.specs.Spare.{Spare}
use Rattle.als_store.specs.Takeover.{PhasesRise, follows}
use Rattle.als_store.specs.Origin.{Origin, origin_of}
use Rattle.als_store.specs.Warm.{IsWarm}

-- what a caller sees
abbrev pub stored_of : ℕ → Local → Controlled → Pooled → Bool → Origin → Bool → Stored
stored_of pages l c pool broken origin recovering = record {
  pages = pages;
  log = l.log;
  pool = pool;
  blocks = l.blocks;
  written = l.written;
  synced = l.synced;
  control = c.synced;
  since = c.since;
  held = c.held;
  begun = c.begun;
  broken = broken;
  failures = l.failures + c.failures + pool.frames.failures;
  attempts = l.attempts + c.attempts + pool.frames.attempts;
  origin = origin;
  recovering = recovering;
}

-- what can be taken with no memory
abbrev pub spare_of : Local → Validator → Room → Spare
spare_of l validator room = record {
  bytes = l.room;
  judge = has_room validator;
  pool = room;
}

-- Each mark of the control states is the end of a record, at or below the synced end.
pub record AreMarks (l : Local) (c : Controlled) : Type 0 where
  pub pages : c.pages ≡ l.pages
  pub bytes : c.log_bytes ≡ 512 * l.blocks
  pub newest_synced : (newest c).mark.0 ≤ l.synced
  pub fronts : (s : ControlState) → IsAmong c s → IsFrontEnd l.log s.mark.0

-- The pool has so many pages, and what it has of each ends below the log's end. Unless the store is
-- broken no write of a page has failed.
pub record IsHeldPool (pages : ℕ) (log : List Record) (pool : Pooled) (broken : Bool) : Type 0 where
  pub count : length pool.waits ≡ pages
  pub ends : EndsBelow (end_of log) pool
  pub few : total_waiting pool.waits ≤ length log
  pub sure : broken ≡ false → IsTrue pool.frames.sure

-- What holds of the parts: the validator is that of the log, and judges until the log is sealed; and
-- what was true of the log, the control block and the pages when the store was made still is.
pub record IsStored (pages : ℕ) (l : Local) (held : CommitCount) (c : Controlled) (pool : Pooled)
    (validator : Validator) (broken : Bool) (origin : Origin) (recovering : Bool) : Type 0 where
  pub log_pages : l.pages ≡ pages
  pub is_log : IsValidLog pages l.log
  pub fit : FrontsFit l.blocks c.synced.mark.0 l.log
  pub judged : IsValidatorOf pages validator l.log
  pub judging : judges validator ≡ follows (newest c).phase
  pub paged : IsHeldPool pages l.log pool broken
  pub held_is : IsCountOf held l.log
  pub few_pages : pages ≤ 4096
  pub marks : AreMarks l c
  pub rise : PhasesRise c.synced c.since
  pub warm : IsWarm true origin → IsWarm recovering (origin_of l c pool)
  pub sure : broken ≡ false → c.sure ≡ true
