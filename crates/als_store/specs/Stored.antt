-- What a store holds: the log, how far it is written and synced, the control states, and the pages,
-- each of which is the log's up to a page_LSN.
use Rattle.std.specs.Prelude.{◌≡◌, ℕ, ◌+◌, ◌*◌, ◌<◌, ◌≤◌, ◌⊎◌, Bool, false, List, [], ◌∷◌, ◌++◌}
use Rattle.std.specs.Prelude.{Option, Some, None, Result, Ok, Err}
use Rattle.std.specs.List.{fold}
use Rattle.als_record.specs.declared.lsn.Lsn.{Lsn}
use Rattle.als_record.specs.declared.change.Change.{Change}
use Rattle.als_record.specs.declared.record.Record.{Record}
use Rattle.als_record.specs.declared.cause.Cause.{Cause}
use Rattle.als_record.specs.Spelling.{record_len}
use Rattle.als_record.specs.LogText.{end_of}
use Rattle.als_record.specs.Validity.{first_bad}
use Rattle.als_record.specs.Tail.{reserve_of}
use Rattle.als_record.specs.Pages.{page_at, change_of}
use Rattle.als_page.specs.declared.page.Page.{Page}
use Rattle.als_page.specs.Page.{id_of, state_of}
use Rattle.als_disk.specs.Slot.{only}
use Rattle.als_disk.specs.Store.{zeros}
use Rattle.als_frames.specs.Frames.{without_frames}
use Rattle.als_frames.specs.Images.{lsn_now}
use Rattle.als_pool.specs.Queues.{total_waiting}
use Rattle.als_pool.specs.Pooled.{Pooled, new_pool}
use Rattle.als_pool.specs.Outcomes.{with_change}
use Rattle.als_log.specs.Reading.{record_at}
use Rattle.als_ckpt.specs.declared.control_state.ControlState.{ControlState}
use Rattle.als_ckpt.specs.Control.{first_state, last_state}
use Rattle.als_ckpt.specs.Regions.{Held, Begun, nothing_held}
use Rattle.als_store.specs.Origin.{Origin}
use Rattle.als_store.specs.declared.fault.Fault.{Fault}
use Rattle.als_store.specs.declared.fault.Fault.TheVariants.{Invalid, LogFull, Memory}

pub record Stored : Type 0 where
  -- the page count, the records, and the pages with what waits for them
  pub pages : ℕ
  pub log : List Record
  pub pool : Pooled
  -- how many blocks the log device has; up to where it is written; the end of the last record
  -- wholly written at its last sync
  pub blocks : ℕ
  pub written : ℕ
  pub synced : ℕ
  -- the synced control state, and those written since, of failed writes too
  pub control : ControlState
  pub since : List ControlState
  -- the checkpoint that each region of the control device holds whatever a crash leaves, and the
  -- one on its way there
  pub held : Held
  pub begun : Option Begun
  -- a write or a sync has failed
  pub broken : Bool
  -- how often a device has failed
  pub failures : ℕ
  -- how often a device was called to write or to sync
  pub attempts : ℕ
  -- what it was when it was made; and whether it was opened then, and is not ready yet
  pub origin : Origin
  pub recovering : Bool

-- the control state that was written last
abbrev pub newest : Stored → ControlState
newest s = last_state s.control s.since

-- the offset below which no log byte can be lost: the mark in the control block as last synced
abbrev pub acknowledged : Stored → ℕ
acknowledged s = s.control.mark.0

-- what a record makes of the pages: what it changes, if anything, waits behind what waited for its
-- page
abbrev pub routed : Pooled → Option Change → Pooled
routed pool None = pool
routed pool (Some change) = with_change pool change

-- the store with records more
abbrev pub with_records : Stored → List Record → Stored
with_records s records = record s {
  log = s.log ++ records;
  pool = fold (λ pool r. routed pool (change_of r)) s.pool records;
}

-- the pages of a database that was just formatted: so many, and so many frames at most; the first
-- lease gets this number
abbrev pub numbered_pool : ℕ → ℕ → ℕ → ℕ → ℕ → ℕ → Pooled
numbered_pool first pages frames blocks failures attempts =
    new_pool (without_frames pages frames (λ _. only zeros) blocks failures attempts) pages first

-- the same, whose leases are numbered from 1
abbrev pub formatted_pool : ℕ → ℕ → ℕ → ℕ → ℕ → Pooled
formatted_pool pages frames blocks failures attempts =
    numbered_pool 1 pages frames blocks failures attempts

-- no records, the first control state, no checkpoint, and these pages
abbrev pub new_origin : Pooled → Origin
new_origin pool = record {
  log = [];
  control = first_state;
  since = [];
  held = nothing_held;
  begun = None;
  pool = pool;
}

-- a store over devices that were just formatted
abbrev pub formatted : ℕ → Pooled → ℕ → ℕ → ℕ → Stored
formatted pages pool blocks failures attempts = record {
  pages = pages;
  log = [];
  pool = pool;
  blocks = blocks;
  written = 16;
  synced = 16;
  control = first_state;
  since = [];
  held = nothing_held;
  begun = None;
  broken = false;
  failures = failures;
  attempts = attempts;
  origin = new_origin pool;
  recovering = false;
}

-- ---- records

-- the log device has no room for the log with a record and for its reserve then
abbrev pub IsTooLong : Stored → Record → Type 0
IsTooLong s r = 512 * s.blocks < end_of s.log + record_len r + reserve_of (s.log ++ r ∷ [])

-- A log device of so many blocks has room for each front of the log that ends at or above an
-- offset, with its reserve. From the acknowledged LSN on these are the logs that a crash may leave:
-- so a takeover, and after it each decision, can go ahead whatever it leaves.
abbrev pub FrontsFit : ℕ → ℕ → List Record → Type 0
FrontsFit blocks from log =
    (front rest : List Record) → log ≡ front ++ rest → from ≤ end_of front
    → end_of front + reserve_of front ≤ 512 * blocks

-- why a record is not held: the first cause that it may not follow, or else no room, or a growth
-- was refused
abbrev pub IsRefused : Stored → Record → Fault → Type 0
IsRefused s r fault =
    ((c : Cause) × (first_bad s.log r ≡ Some c) × (fault ≡ Invalid c))
    ⊎ (((first_bad s.log r ≡ None) × IsTooLong s r × (fault ≡ LogFull))
    ⊎ (fault ≡ Memory))

-- what is answered of a record, by the first cause why it may not follow
abbrev pub judgement_of : Option Cause → Result (Unit {0}) Fault
judgement_of None = Ok tt
judgement_of (Some cause) = Err (Invalid cause)

-- the record that stands at an LSN, if there is one
abbrev pub StandsAt : List Record → Lsn → Option Record → Type 0
StandsAt log lsn found = found ≡ record_at log lsn.0

-- ---- pages

-- the page as it is now: history repeated up to its page_LSN
pub record IsShown (s : Stored) (page : ℕ) (shown : Page) : Type 0 where
  pub number : id_of shown ≡ page
  pub content : state_of shown ≡ page_at s.log page (lsn_now s.pool.frames page)

-- how many changes wait, over all pages
abbrev pub pending_of : Stored → ℕ
pending_of s = total_waiting s.pool.waits
