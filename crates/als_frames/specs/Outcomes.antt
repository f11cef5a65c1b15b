-- What each call does, and when it is refused.
use Rattle.std.specs.Prelude.{◌≡◌, ◌≢◌, ◌⊎◌, ℕ, ◌<◌, ◌≤◌, ◌+◌, min, false, List, length, Contains, Option, Some, None}
use Rattle.std.specs.Option.{option_map}
use Rattle.als_record.specs.Pages.{PageState, IsPageState}
use Rattle.als_disk.specs.Slot.{Slot, written, FailsToWrite, KeepsReadable}
use Rattle.als_page.specs.Block.{block_of}
use Rattle.als_frames.specs.declared.fault.Fault.{Fault}
use Rattle.als_frames.specs.declared.fault.Fault.TheVariants.{PoolFull, NothingToDo, Device, Memory, BadPage}
use Rattle.als_frames.specs.Frames.{Framed, IsFree, clean_frame, Paged, frame_of, slot_of}

-- a read of the device has failed, and nothing else has changed
pub record ReadFails (old new : Paged) : Type 0 where
  pub failed : old.failures < new.failures
  pub same : new ≡ record old { failures = new.failures }

-- ---- reading a page

-- a read may give the block of this page
pub record IsFound (slot : Slot) (page : ℕ) (content : PageState) : Type 0 where
  pub given : Contains slot.readable (block_of page content)
  pub possible : IsPageState content

-- a read may give what is the block of no page with this number and a page_LSN below an end
pub record IsBadBelow (slot : Slot) (page end : ℕ) : Type 0 where
  pub block : List ℕ
  pub given : Contains slot.readable block
  pub no_page : (content : PageState) → IsPageState content → block ≡ block_of page content → end ≤ content.lsn

-- a read may give what is the block of no page with this number
pub record IsBad (slot : Slot) (page : ℕ) : Type 0 where
  pub block : List ℕ
  pub given : Contains slot.readable block
  pub no_page : (content : PageState) → IsPageState content → block ≡ block_of page content → ⊥

-- by the device's failures: a page could not be read
abbrev pub FailsToRead : Fault → Slot → ℕ → ℕ → ℕ → Type 0
FailsToRead Device slot page before now = before < now
FailsToRead (BadPage p) slot page before now = (p ≡ page) × IsBad slot page × (now ≡ before)
FailsToRead PoolFull slot page before now = ⊥
FailsToRead NothingToDo slot page before now = ⊥
FailsToRead Memory slot page before now = ⊥

-- a page was not read: the device failed, or the block is no page's
abbrev pub RefusesReading : Fault → Paged → Paged → ℕ → Type 0
RefusesReading Device old new page = ReadFails old new
RefusesReading (BadPage p) old new page = (p ≡ page) × IsBad (slot_of old page) page × (new ≡ old)
RefusesReading PoolFull old new page = ⊥
RefusesReading NothingToDo old new page = ⊥
RefusesReading Memory old new page = ⊥

-- ---- making a page resident

-- the page has no frame, all frames are used, and none of them is free
pub record IsFull (v : Paged) (page : ℕ) : Type 0 where
  pub absent : frame_of v page ≡ None
  pub used : v.most ≤ length v.frames
  pub dirty : (other : ℕ) (f : Framed) → frame_of v other ≡ Some f → IsFree f → ⊥

-- a page is read for a frame of its own, which there is
pub record IsFetched (v : Paged) (page end : ℕ) (content : PageState) : Type 0 where
  pub can : IsFull v page → ⊥
  pub found : IsFound (slot_of v page) page content
  pub below : content.lsn < end

-- a page was not read for a frame: there is none for it, or the device failed, or the block is that of no page below the end
abbrev pub RefusesFetch : Fault → Paged → Paged → ℕ → ℕ → Type 0
RefusesFetch PoolFull old new page end = IsFull old page × (new ≡ old)
RefusesFetch Device old new page end = (IsFull old page → ⊥) × ReadFails old new
RefusesFetch (BadPage p) old new page end = (IsFull old page → ⊥) × (p ≡ page) × IsBadBelow (slot_of old page) page end × (new ≡ old)
RefusesFetch Memory old new page end = ⊥
RefusesFetch NothingToDo old new page end = ⊥

-- a free frame is taken from its page
abbrev pub IsReplaced : Option Framed → Option Framed → Type 0
IsReplaced old new = (f : Framed) × (old ≡ Some f) × IsFree f × (new ≡ None)

-- A page that was read is put into a frame of its own: a new one, or else a free one of another page.
pub record PutsIn (old new : Paged) (page : ℕ) (content : PageState) : Type 0 where
  pub frame : frame_of new page ≡ Some (clean_frame page content)
  pub others : (other : ℕ) → other ≢ page → (frame_of new other ≡ frame_of old other) ⊎ IsReplaced (frame_of old other) (frame_of new other)
  pub free : length old.frames < old.most → (other : ℕ) → other ≢ page → frame_of new other ≡ frame_of old other
  pub used : length new.frames ≡ min (length old.frames + 1) old.most
  pub same : new ≡ record old { frames = new.frames }

-- ---- changing a resident page

-- the frame of a page becomes this one, and no other frame changes
pub record SetsFrame (old new : Paged) (page : ℕ) (f : Framed) : Type 0 where
  pub frame : frame_of new page ≡ Some f
  pub others : (other : ℕ) → other ≢ page → frame_of new other ≡ frame_of old other
  pub used : length new.frames ≡ length old.frames

-- ---- writing a page

-- the block of a page is changed, and no other page's
abbrev pub ChangesSlot : Paged → Paged → ℕ → (Slot → Slot → Type 0) → Type 0
ChangesSlot old new page changes = changes (slot_of old page) (slot_of new page) × ((other : ℕ) → other ≢ page → slot_of new other ≡ slot_of old other)

-- the frame of a page is not written as it is now
pub record IsDue (v : Paged) (page : ℕ) (f : Framed) : Type 0 where
  pub resident : frame_of v page ≡ Some f
  pub due : f.written ≢ f.content.lsn

-- the page is not resident, or its image last written is the page as it is now
abbrev pub NothingIsDue : Paged → ℕ → Type 0
NothingIsDue v page = (f : Framed) → frame_of v page ≡ Some f → f.written ≡ f.content.lsn

-- a resident page is written to its block
pub record Writes (old new : Paged) (page : ℕ) : Type 0 where
  pub f : Framed
  pub due : IsDue old page f
  pub sets : SetsFrame old new page (record f { written = f.content.lsn })
  pub slots : ChangesSlot old new page (λ before after. after ≡ written before (block_of page f.content))
  pub same : new ≡ record old { frames = new.frames; slots = new.slots; attempts = old.attempts + 1 }

-- the one write that was made has failed
pub record WriteFails (old new : Paged) (page : ℕ) : Type 0 where
  pub f : Framed
  pub due : IsDue old page f
  pub slots : ChangesSlot old new page (λ before after. FailsToWrite before after (block_of page f.content))
  pub failed : old.failures < new.failures
  pub same : new ≡ record old { slots = new.slots; failures = new.failures; attempts = old.attempts + 1; sure = false }

-- a page was not written: there is nothing to write, or the device failed
abbrev pub RefusesWrite : Fault → Paged → Paged → ℕ → Type 0
RefusesWrite NothingToDo old new page = NothingIsDue old page × (new ≡ old)
RefusesWrite Device old new page = WriteFails old new page
RefusesWrite PoolFull old new page = ⊥
RefusesWrite Memory old new page = ⊥
RefusesWrite (BadPage p) old new page = ⊥

-- ---- a sync

-- the image of a frame that was last written is the one last synced
abbrev pub synced_frame : Framed → Framed
synced_frame f = record f { synced = f.written }

-- Each block is left with one content that a read might have given, and each frame's image last written is synced.
pub record Syncs (old new : Paged) : Type 0 where
  pub frames : (page : ℕ) → frame_of new page ≡ option_map synced_frame (frame_of old page)
  pub used : length new.frames ≡ length old.frames
  pub slots : (page : ℕ) → page < old.pages → KeepsReadable (slot_of old page) (slot_of new page)
  pub same : new ≡ record old { frames = new.frames; slots = new.slots; attempts = old.attempts + 1 }

-- the one sync that was made has failed, and nothing else has changed
pub record SyncFails (old new : Paged) : Type 0 where
  pub failed : old.failures < new.failures
  pub same : new ≡ record old { failures = new.failures; attempts = old.attempts + 1 }
