-- The pages of a database: on their device and in frames, with what the log has for them.
use Rattle.std.specs.Prelude.{◌≡◌, ◌≢◌, ℕ, ◌<◌, ◌≤◌, Bool, is_some, List, [], length, replicate, slice_index_or, Option, Some, None}
use Rattle.als_record.specs.declared.change.Change.{Change}
use Rattle.als_record.specs.declared.lsn.Lsn.{Lsn}
use Rattle.als_frames.specs.declared.lent.Lent.{Lent}
use Rattle.als_frames.specs.Frames.{Framed, Paged, frame_of}
use Rattle.als_frames.specs.Leases.{leases_of as leased_frames}
use Rattle.als_frames.specs.Images.{lsn_or, lsn_now, written_lsn, synced_lsn}
use Rattle.als_page.specs.Changes.{AreNext}
use Rattle.als_dirty.specs.declared.dirty_page.DirtyPage.{DirtyPage}
use Rattle.als_dirty.specs.Entries.{untouched_page}
use Rattle.als_dirty.specs.Rows.{rec_lsn_of}
use Rattle.als_pool.specs.Queues.{pending_of}

-- The pages in frames and on their device, the dirty page table, what waits for each page, and which pages were not read since
-- a restart: of these with the first LSN from which on changes wait. And the number of the next lease; none once all are given.
pub record Pooled : Type 0 where
  pub frames : Paged
  pub dirty : List DirtyPage
  pub waits : List (List Change)
  pub unread : List (Option Lsn)
  pub next : Option ℕ

-- for how many more frames there is room with no memory, for which pages there is room for one more change, and how many leases
-- can be made with no memory
pub record Room : Type 0 where
  pub frames : ℕ
  pub places : List Bool
  pub leases : ℕ

-- the memory of a new pool: how many pages it has, and the number of its first lease
pub record Prepared : Type 0 where
  pub pages : ℕ
  pub first : ℕ

-- how many pages are lent
abbrev pub leases_of : Pooled → ℕ
leases_of v = leased_frames v.frames

-- the pages, and the room beside them
pub record Held : Type 0 where
  pub pool : Pooled
  pub room : Room

-- the LSN from which on changes of an unread page wait
abbrev pub unread_of : List (Option Lsn) → ℕ → Option Lsn
unread_of unread page = slice_index_or unread page None

-- a page in short: whether it is resident; the page_LSNs of the page as it is now and of its images last written and last
-- synced; and the RecLSN of its row, if it has one
pub record PageView : Type 0 where
  pub resident : Bool
  pub now : ℕ
  pub written : ℕ
  pub synced : ℕ
  pub row : Option Lsn

abbrev pub view_of : Pooled → ℕ → PageView
view_of v page = record {
  resident = is_some (frame_of v.frames page);
  now = lsn_now v.frames page;
  written = written_lsn v.frames page;
  synced = synced_lsn v.frames page;
  row = rec_lsn_of v.dirty page;
}

-- what waits for a resident page stands above its page_LSN, and can be redone one after another
abbrev pub WaitsInOrder : Paged → ℕ → List Change → Type 0
WaitsInOrder frames page waits = AreNext page (lsn_or (frame_of frames page) 0) waits

-- a page is lent with 1 to 64 of the changes that wait for it
pub record IsLentWith (lent : Lent) (waits : List Change) : Type 0 where
  pub some : 1 ≤ lent.count
  pub most : lent.count ≤ 64
  pub wait : lent.count ≤ length waits

-- What always holds: each page has a row and a queue, what waits can be redone, and the changes of each lease wait until it ends.
pub record IsPooled (v : Pooled) : Type 0 where
  pub paged : v.frames.pages ≡ length v.waits
  pub tabled : length v.dirty ≡ length v.waits
  pub told : length v.unread ≡ length v.waits
  pub ordered : (page : ℕ) → page < length v.waits → WaitsInOrder v.frames page (pending_of v.waits page)
  pub lent : (page : ℕ) (f : Framed) (l : Lent) → frame_of v.frames page ≡ Some f → f.lent ≡ Some l → IsLentWith l (pending_of v.waits page)

-- so many empty pages, of which nothing waits, and the number of their first lease
abbrev pub new_pool : Paged → ℕ → ℕ → Pooled
new_pool frames pages first = record {
  frames = frames;
  dirty = replicate pages untouched_page;
  waits = replicate pages [];
  unread = replicate pages None;
  next = Some first;
}

-- each page's page_LSN is what it was, or each but one page's
abbrev pub SameLsns : Pooled → Pooled → Type 0
SameLsns old new = (page : ℕ) → page < length old.waits → lsn_now new.frames page ≡ lsn_now old.frames page

abbrev pub SameLsnsBut : ℕ → Pooled → Pooled → Type 0
SameLsnsBut page old new = (other : ℕ) → other < length old.waits → other ≢ page → lsn_now new.frames other ≡ lsn_now old.frames other

-- the page_LSN of each page's image last synced is not below what it was
abbrev pub Grows : Pooled → Pooled → Type 0
Grows old new = (page : ℕ) → page < length old.waits → synced_lsn old.frames page ≤ synced_lsn new.frames page
