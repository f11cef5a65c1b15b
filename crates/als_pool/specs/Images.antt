-- What the pages, their images, their rows and what waits for them are of a log.
use Rattle.std.specs.Prelude.{◌≡◌, ◌⊎◌, ℕ, ◌<◌, ◌≤◌, ◌-◌, List, [], length, Option, Some, None, MatchOption}
use Rattle.std.specs.List.{AllByRecursion}
use Rattle.als_record.specs.declared.change.Change.{Change}
use Rattle.als_record.specs.declared.lsn.Lsn.{Lsn}
use Rattle.als_record.specs.declared.record.Record.{Record}
use Rattle.als_record.specs.LogText.{end_of}
use Rattle.als_record.specs.Pages.{page_at, changes_above}
use Rattle.als_frames.specs.Frames.{Framed, frame_of}
use Rattle.als_frames.specs.Images.{image_of, lsn_or, written_or, synced_lsn, IsStable, AreFramesOf}
use Rattle.als_dirty.specs.declared.dirty_page.DirtyPage.{DirtyPage}
use Rattle.als_dirty.specs.Entries.{entry_of}
use Rattle.als_dirty.specs.Images.{first_lsn, IsDirtyPageOf}
use Rattle.als_pool.specs.Queues.{pending_of}
use Rattle.als_pool.specs.Pooled.{Pooled, unread_of}

-- A page that was not read since a restart: it has no frame, and its image has a page_LSN; all changes of the log above that stand
-- at or above an LSN; from that LSN on they wait. Its row is the one that a checkpoint gave it, with this LSN, which is below the
-- log's end; or else the first change that waits.
pub record IsUnread (log : List Record) (page : ℕ) (frame : Option Framed) (synced : ℕ) (from : Lsn) (e : DirtyPage) (waits : List Change) : Type 0 where
  pub absent : frame ≡ None
  pub first : 16 ≤ from.0
  pub reached : from.0 ≤ end_of log
  pub lacks : AllByRecursion (λ c. from.0 ≤ c.lsn.0) (changes_above log page synced)
  pub wait : waits ≡ changes_above log page (from.0 - 1)
  pub row : ((e.synced ≡ Some from) × (from.0 < end_of log)) ⊎ (e.synced ≡ first_lsn waits)
  pub one : e.written ≡ e.synced

-- A page that was read: the table has the first records that its images last synced and last written lack, and what waits is
-- what the log has for it above its page_LSN.
pub record IsRead (log : List Record) (page : ℕ) (frame : Option Framed) (synced : ℕ) (e : DirtyPage) (waits : List Change) : Type 0 where
  pub row : IsDirtyPageOf log page synced (written_or frame synced) e
  pub wait : waits ≡ changes_above log page (lsn_or frame synced)

abbrev pub IsPageOf : List Record → ℕ → Option Framed → ℕ → DirtyPage → List Change → Option Lsn → Type 0
IsPageOf log page frame synced e waits None = IsRead log page frame synced e waits
IsPageOf log page frame synced e waits (Some from) = IsUnread log page frame synced from e waits

-- a page of a pool, as the log has it
abbrev pub IsPooledPageOf : List Record → Pooled → ℕ → Type 0
IsPooledPageOf log v page
    = IsPageOf log page (frame_of v.frames page) (synced_lsn v.frames page) (entry_of v.dirty page) (pending_of v.waits page) (unread_of v.unread page)

-- The pages and their images are the log's, where the log below an offset survives each crash; so are the dirty page table and
-- what waits for each page.
pub record IsPoolOf (log : List Record) (below : ℕ) (v : Pooled) : Type 0 where
  pub paged : v.frames.pages ≡ length v.waits
  pub tabled : length v.dirty ≡ length v.waits
  pub told : length v.unread ≡ length v.waits
  pub frames : AreFramesOf log (synced_lsn v.frames) below v.frames
  pub each : (page : ℕ) → page < length v.waits → IsPooledPageOf log v page

-- above an image's page_LSN the log has no record on the page below the page's RecLSN, and none at all where it has no row
abbrev pub IsCovered : List Record → ℕ → ℕ → Option Lsn → Type 0
IsCovered log page lsn rec_lsn
    = MatchOption rec_lsn (changes_above log page lsn ≡ []) (λ first. AllByRecursion (λ c. first.0 ≤ c.lsn.0) (changes_above log page lsn))

-- The row of a page is sound for what a crash leaves in its block: the image of the page at a stable page_LSN, which the row
-- covers.
pub record IsRowSound (log : List Record) (page below : ℕ) (rec_lsn : Option Lsn) (content : List ℕ) : Type 0 where
  pub lsn : ℕ
  pub stable : IsStable log page below lsn
  pub spelled : content ≡ image_of log page lsn
  pub covered : IsCovered log page lsn rec_lsn

-- The row of a page is exact for a content of its block: the image of the page at its page_LSN, and the row is the first record
-- of the log above that; where there is none there is no row.
pub record IsRowExact (log : List Record) (page : ℕ) (rec_lsn : Option Lsn) (content : List ℕ) : Type 0 where
  pub lsn : ℕ
  pub own : (page_at log page lsn).lsn ≡ lsn
  pub spelled : content ≡ image_of log page lsn
  pub exact : rec_lsn ≡ first_lsn (changes_above log page lsn)

-- ---- while a log is read at a restart

-- A page of which the first records of a log were read: of an unread page the changes among them from its LSN on wait, and its row is
-- the one that a checkpoint gave it, with this LSN, or else the first change that waits.
pub record IsQueueOf (front : List Record) (page : ℕ) (e : DirtyPage) (waits : List Change) (from : Lsn) : Type 0 where
  pub first : 16 ≤ from.0
  pub wait : waits ≡ changes_above front page (from.0 - 1)
  pub row : (e.synced ≡ Some from) ⊎ (e.synced ≡ first_lsn waits)
  pub one : e.written ≡ e.synced

-- So it is with each page, none of which was read yet.
pub record QueuesOf (front : List Record) (v : Pooled) : Type 0 where
  pub tabled : length v.dirty ≡ length v.waits
  pub each : (page : ℕ) → page < length v.waits → MatchOption (unread_of v.unread page) ⊥
      (λ from. IsQueueOf front page (entry_of v.dirty page) (pending_of v.waits page) from)

-- a change of an unread page stands at or above the LSN from which on its changes wait, or below it
abbrev pub IsFromOn : Pooled → Change → Type 0
IsFromOn v change = MatchOption (unread_of v.unread change.key.page) ⊥ (λ from. from.0 ≤ change.lsn.0)

abbrev pub IsBelow : Pooled → Change → Type 0
IsBelow v change = MatchOption (unread_of v.unread change.key.page) ⊥ (λ from. change.lsn.0 < from.0)

-- A page's block has one image of it, at a stable page_LSN, and all changes of the log above that stand at or above an LSN; it has no
-- frame.
pub record LacksFrom (log : List Record) (page : ℕ) (frame : Option Framed) (synced : ℕ) (from : Lsn) : Type 0 where
  pub absent : frame ≡ None
  pub reached : from.0 ≤ end_of log
  pub lacks : AllByRecursion (λ c. from.0 ≤ c.lsn.0) (changes_above log page synced)

abbrev pub AllLackFrom : List Record → Pooled → Type 0
AllLackFrom log v = (page : ℕ) → page < length v.waits → MatchOption (unread_of v.unread page) ⊥
    (λ from. LacksFrom log page (frame_of v.frames page) (synced_lsn v.frames page) from)
