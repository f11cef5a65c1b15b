-- The pages of a database on a device, some of them in frames in memory, as callers see them.
use Rattle.std.specs.Prelude.{◌≡◌, ℕ, zero, suc, ◌<◌, ◌≤◌, Bool, true, List, [], ◌∷◌, length, get_or, Option, Some, None, nat_eq}
use Rattle.std.specs.Map.{lookup}
use Rattle.als_record.specs.Pages.{PageState}
use Rattle.als_disk.specs.Slot.{Slot, only}
use Rattle.als_frames.specs.declared.lent.Lent.{Lent}

-- A frame: the number of its page, the page as it is now, the page_LSNs of its images last written and last synced, and the
-- lease of the page while it is lent.
pub record Framed : Type 0 where
  pub id : ℕ
  pub content : PageState
  pub written : ℕ
  pub synced : ℕ
  pub lent : Option Lent

-- the page is the image last synced
abbrev pub IsClean : Framed → Type 0
IsClean f = f.content.lsn ≡ f.synced

-- a frame may be taken from its page: it is clean, and its page is not lent
abbrev pub IsFree : Framed → Type 0
IsFree f = IsClean f × (f.lent ≡ None)

-- the frame of a page as its block has it
abbrev pub clean_frame : ℕ → PageState → Framed
clean_frame page content = record { id = page; content = content; written = content.lsn; synced = content.lsn; lent = None }

-- The database's page count; how many frames there may be, and those that there are, by the numbers of their pages; what
-- stands in the block of each page; how many blocks the device has, how often it has failed, and how often it was called to
-- write or to sync; whether no write has failed.
pub record Paged : Type 0 where
  pub pages : ℕ
  pub most : ℕ
  pub frames : List (ℕ × Framed)
  pub slots : List Slot
  pub blocks : ℕ
  pub failures : ℕ
  pub attempts : ℕ
  pub sure : Bool

-- the pages, and beside them for how many more frames there is room with no memory
pub record Holding : Type 0 where
  pub paged : Paged
  pub spare : ℕ

-- the frame of a page, if it has one
abbrev pub frame_of : Paged → ℕ → Option Framed
frame_of v page = lookup (nat_eq page) v.frames

-- what stands in so many blocks of a device, from one on
unfoldable pub slots_from : ℕ → ℕ → (ℕ → Slot) → List Slot
slots_from i zero slot = []
slots_from i (suc count) slot = slot i ∷ slots_from (suc i) count slot

-- what stands at a place of these blocks; past them one empty content
unfoldable pub slot_in : List Slot → ℕ → Slot
slot_in slots page = get_or slots page (only [])

-- what stands in the block of a page
abbrev pub slot_of : Paged → ℕ → Slot
slot_of v page = slot_in v.slots page

-- pages of which none has a frame, over a device with this in their blocks, of which no write has failed
abbrev pub without_frames : ℕ → ℕ → (ℕ → Slot) → ℕ → ℕ → ℕ → Paged
without_frames pages most slot blocks failures attempts = record {
  pages = pages;
  most = most;
  frames = [];
  slots = slots_from 0 pages slot;
  blocks = blocks;
  failures = failures;
  attempts = attempts;
  sure = true;
}

-- What always holds: each page has a block, a frame is that of its page, and there are no more frames than there may be.
pub record IsPaged (v : Paged) : Type 0 where
  pub stored : v.pages ≤ v.blocks
  pub few : length v.frames ≤ v.most
  pub numbered : (page : ℕ) (f : Framed) → frame_of v page ≡ Some f → (f.id ≡ page) × (page < v.pages)
