-- What a restart makes of the pages: none of them was read, and what waits for each begins at its row in the checkpoint.
use Rattle.std.specs.Prelude.{◌≡◌, ◌⊎◌, ℕ, ◌-◌, ◌<◌, ◌≤◌, max, List, [], ◌∷◌, length, replicate, if◌then◌else◌, ◌==◌, slice_set, Contains, Option, Some, None, MatchOption}
use Rattle.std.specs.List.{AllByRecursion}
use Rattle.als_record.specs.declared.change.Change.{Change}
use Rattle.als_record.specs.declared.lsn.Lsn.{Lsn}
use Rattle.als_record.specs.declared.record.Record.{Record}
use Rattle.als_record.specs.declared.rows.LoggedPage.{LoggedPage}
use Rattle.als_record.specs.LogText.{end_of, IsLog}
use Rattle.als_record.specs.Pages.{change_of, changes_above}
use Rattle.als_disk.specs.Slot.{Slot, IsSettled}
use Rattle.als_frames.specs.Frames.{Framed, Paged, frame_of}
use Rattle.als_frames.specs.Images.{image_of, synced_lsn, IsStable, AreFramesOf}
use Rattle.als_dirty.specs.declared.dirty_page.DirtyPage.{DirtyPage}
use Rattle.als_dirty.specs.Entries.{untouched_page, entry_of, after_load}
use Rattle.als_dirty.specs.Images.{first_lsn}
use Rattle.als_pool.specs.Queues.{pending_of}
use Rattle.als_pool.specs.Pooled.{Pooled, unread_of}
use Rattle.als_pool.specs.Outcomes.{CanRoute, with_change}
use Rattle.als_pool.specs.Images.{IsFromOn, IsBelow, AllLackFrom}

-- ---- where what waits begins

-- an LSN, but not below that of the first record
abbrev pub at_first : Lsn → Lsn
at_first lsn = record { 0 = max 16 lsn.0 }

-- the RecLSN of a page's row, the last one's if there are more, or else the one found before
abbrev pub row_after : Option Lsn → List LoggedPage → ℕ → Option Lsn
row_after found [] page = found
row_after found (row ∷ rest) page = row_after (if row.page == page then Some (at_first row.rec_lsn) else found) rest page

-- the RecLSN of a page's row in the dirty page table of a checkpoint, if it has one
abbrev pub row_in : List LoggedPage → ℕ → Option Lsn
row_in rows page = row_after None rows page

-- a page's row in a checkpoint, or else an LSN
abbrev pub or_from : Option Lsn → Lsn → Lsn
or_from None from = from
or_from (Some row) from = row

-- a page's row in a checkpoint, or else the first record of some, if there is one
abbrev pub or_first : Option Lsn → Option Lsn → Option Lsn
or_first None first = first
or_first (Some row) first = Some row

-- the LSN from which on the changes of a page wait: its row in the checkpoint, or else the checkpoint's position
abbrev pub start_of : Lsn → List LoggedPage → ℕ → Lsn
start_of position rows page = or_from (row_in rows page) (at_first position)

-- ---- a pool that was opened

-- No page was read, nothing waits, the rows are those of the checkpoint, and the first lease gets number 1.
pub record IsOpened (stored : Paged) (position : Lsn) (rows : List LoggedPage) (v : Pooled) : Type 0 where
  pub frames : v.frames ≡ stored
  pub waits : v.waits ≡ replicate stored.pages []
  pub tabled : length v.dirty ≡ stored.pages
  pub told : length v.unread ≡ stored.pages
  pub starts : (page : ℕ) → page < stored.pages → unread_of v.unread page ≡ Some (start_of position rows page)
  pub given : (page : ℕ) → page < stored.pages → entry_of v.dirty page ≡ after_load (row_in rows page)
  pub first : v.next ≡ Some 1

-- ---- the rows of unread pages

-- A page that was not read since a restart: it has no frame; its changes wait from its row in the checkpoint on, or else from the
-- position on; and its row is the one in the checkpoint, or else the first change that waits, none where nothing waits.
pub record IsUnreadRow (position : Lsn) (given : Option Lsn) (frame : Option Framed) (e : DirtyPage) (waits : List Change) (from : Lsn) : Type 0 where
  pub start : from ≡ or_from given (at_first position)
  pub row : e.synced ≡ or_first given (first_lsn waits)
  pub one : e.written ≡ e.synced
  pub absent : frame ≡ None

-- so it is with each page that was not read since a restart with this checkpoint
pub record HasRowsFrom (position : Lsn) (rows : List LoggedPage) (v : Pooled) : Type 0 where
  pub paged : v.frames.pages ≡ length v.waits
  pub tabled : length v.dirty ≡ length v.waits
  pub told : length v.unread ≡ length v.waits
  pub each : (page : ℕ) → page < length v.waits → MatchOption (unread_of v.unread page) (Unit {0})
      (λ from. IsUnreadRow position (row_in rows page) (frame_of v.frames page) (entry_of v.dirty page) (pending_of v.waits page) from)

-- The row of a page that was not read since a restart, by the log: the one in the checkpoint, or else the first record of the log on the
-- page from the position on, none where there is none; and what waits are the changes from there on.
pub record IsRowOfRestart (log : List Record) (page : ℕ) (start : Lsn) (given rec_lsn : Option Lsn) (waits : List Change) : Type 0 where
  pub row : rec_lsn ≡ or_first given (first_lsn (changes_above log page (start.0 - 1)))
  pub wait : waits ≡ changes_above log page (start.0 - 1)

-- ---- what the blocks hold

-- A content of a page's block: the image of the page at a stable page_LSN, which lacks no change of the log below an LSN.
pub record IsImageFrom (log : List Record) (page below : ℕ) (from : Lsn) (content : List ℕ) : Type 0 where
  pub lsn : ℕ
  pub stable : IsStable log page below lsn
  pub spelled : content ≡ image_of log page lsn
  pub lacks : AllByRecursion (λ c. from.0 ≤ c.lsn.0) (changes_above log page lsn)

-- a row of a checkpoint at a position: its RecLSN is that of a record below the position
abbrev pub IsRowBelow : Lsn → LoggedPage → Type 0
IsRowBelow position row = (16 ≤ row.rec_lsn.0) × (row.rec_lsn.0 < position.0)

-- The log has reached the checkpoint's position, and its rows are below that. Each block of a page has one content, an image of it which
-- lacks no change of the log from below where its changes wait.
pub record HoldsImagesFrom (log : List Record) (below pages : ℕ) (position : Lsn) (rows : List LoggedPage) (slots : ℕ → Slot) : Type 0 where
  pub is_log : IsLog pages log
  pub reached : position.0 ≤ end_of log
  pub listed : AllByRecursion (IsRowBelow position) rows
  pub settled : (page : ℕ) → page < pages → IsSettled (slots page)
  pub images : (page : ℕ) (content : List ℕ) → page < pages → Contains (slots page).candidates content
      → IsImageFrom log page below (start_of position rows page) content

-- What the blocks of a pool hold while a log is read: of each page an image which lacks no change below where its changes wait. The pool's
-- rows come from a checkpoint whose position the log has reached, with rows below that.
pub record HoldsImagesOf (log : List Record) (below : ℕ) (v : Pooled) : Type 0 where
  pub frames : AreFramesOf log (synced_lsn v.frames) below v.frames
  pub lacks : AllLackFrom log v
  pub position : Lsn
  pub rows : List LoggedPage
  pub given : HasRowsFrom position rows v
  pub reached : position.0 ≤ end_of log
  pub listed : AllByRecursion (IsRowBelow position) rows

-- No record of the log on a page has an LSN above that of the image last synced, and below where a restart with this checkpoint begins.
abbrev pub CoversPages : List Record → Lsn → List LoggedPage → Pooled → Type 0
CoversPages log position rows v = (page : ℕ) → page < length v.waits
    → AllByRecursion (λ c. (start_of position rows page).0 ≤ c.lsn.0) (changes_above log page (synced_lsn v.frames page))

-- ---- the log is read

-- A record of a log is taken in: its change goes behind those that its page waits for, if it does not stand below the LSN from which on
-- they wait; if it does, or if the record changes no page, nothing changes.
abbrev pub TakesIn : Pooled → Record → Pooled → Type 0
TakesIn old r new = MatchOption (change_of r) (new ≡ old) (λ c. (CanRoute old c × IsFromOn old c × (new ≡ with_change old c)) ⊎ (IsBelow old c × (new ≡ old)))

-- records of a log are taken in one after another
abbrev pub TakesInAll : Pooled → List Record → Pooled → Type 0
TakesInAll old [] new = new ≡ old
TakesInAll old (r ∷ rest) new = (next : Pooled) × TakesIn old r next × TakesInAll next rest new

-- ---- in memory

-- the dirty page table at a restart, and where the changes of each page begin to wait
pub record Started : Type 0 where
  pub dirty : List DirtyPage
  pub unread : List (Option Lsn)

-- before a row of the checkpoint is taken over
abbrev pub started_at : ℕ → Lsn → Started
started_at pages position = record { dirty = replicate pages untouched_page; unread = replicate pages (Some (at_first position)) }

-- a row of the checkpoint is taken over, if there is the page
abbrev pub with_row : Started → LoggedPage → Started
with_row s row = record {
  dirty = slice_set s.dirty row.page (after_load (Some (at_first row.rec_lsn)));
  unread = slice_set s.unread row.page (Some (at_first row.rec_lsn));
}
