-- What the pages, in frames and on the device, are of a log: history repeated.
use Rattle.std.specs.Prelude.{◌≡◌, ◌⊎◌, ℕ, ◌<◌, ◌≤◌, Bool, IsTrue, List, [], ◌∷◌, Contains, get_or, Option, Some, None}
use Rattle.byteorder.specs.Endian.{big_number}
use Rattle.als_record.specs.declared.record.Record.{Record}
use Rattle.als_record.specs.LogText.{end_of, IsLog}
use Rattle.als_record.specs.Pages.{page_at}
use Rattle.als_disk.specs.Slot.{Slot, only}
use Rattle.als_page.specs.Block.{block_of}
use Rattle.als_frames.specs.Frames.{Framed, IsClean, Paged, frame_of, slot_of}

-- the content of a block at the last sync
abbrev pub synced_content : Slot → List ℕ
synced_content slot = get_or slot.candidates 0 []

-- the page_LSN that a block spells: its first 8 bytes
unfoldable pub spelled_lsn : List ℕ → ℕ
spelled_lsn content = big_number 8 content

-- the page_LSN of a page's image last synced, as its block spells it
abbrev pub synced_lsn : Paged → ℕ → ℕ
synced_lsn v page = spelled_lsn (synced_content (slot_of v page))

-- the page_LSN of a page as it is now: in its frame, or else as its block spells it
abbrev pub lsn_or : Option Framed → ℕ → ℕ
lsn_or None lsn = lsn
lsn_or (Some f) lsn = f.content.lsn

abbrev pub lsn_now : Paged → ℕ → ℕ
lsn_now v page = lsn_or (frame_of v page) (synced_lsn v page)

-- the page_LSN of a page's image last written
abbrev pub written_or : Option Framed → ℕ → ℕ
written_or None lsn = lsn
written_or (Some f) lsn = f.written

abbrev pub written_lsn : Paged → ℕ → ℕ
written_lsn v page = written_or (frame_of v page) (synced_lsn v page)

-- the block of a page as a log has it at an LSN
abbrev pub image_of : List Record → ℕ → ℕ → List ℕ
image_of log page lsn = block_of page (page_at log page lsn)

-- An LSN is a page_LSN of a page in a log, and stable: below an offset up to which the log survives each crash, or 0.
pub record IsStable (log : List Record) (page below lsn : ℕ) : Type 0 where
  pub own : (page_at log page lsn).lsn ≡ lsn
  pub inside : lsn < end_of log
  pub stable : (lsn ≡ 0) ⊎ (lsn < below)

-- The content is the block of a page as a log has it at a stable page_LSN, not below that of the image last synced.
pub record IsImageOf (log : List Record) (page below synced : ℕ) (content : List ℕ) : Type 0 where
  pub lsn : ℕ
  pub from : synced ≤ lsn
  pub stable : IsStable log page below lsn
  pub spelled : content ≡ image_of log page lsn

-- A page with no frame: its block has one content, the image at the page_LSN last synced.
pub record IsStoredAt (log : List Record) (page below synced : ℕ) (slot : Slot) : Type 0 where
  pub stable : IsStable log page below synced
  pub settled : slot ≡ only (image_of log page synced)

-- A page in a frame: the frame has it as history repeated up to its page_LSN, which is at or above that last written, and
-- that at or above the one last synced. Whatever a crash leaves in its block is a stable image not below the one last synced,
-- which is the oldest of them; of a clean frame it is that one, and it is settled. Unless a write has failed, a read gives the image last written.
pub record IsFramedAt (log : List Record) (page below synced : ℕ) (sure : Bool) (slot : Slot) (f : Framed) : Type 0 where
  pub synced_is : f.synced ≡ synced
  pub last : IsStable log page below synced
  pub since : List (List ℕ)
  pub oldest : slot.candidates ≡ image_of log page synced ∷ since
  pub from : synced ≤ f.written
  pub order : f.written ≤ f.content.lsn
  pub inside : f.content.lsn < end_of log
  pub content : f.content ≡ page_at log page f.content.lsn
  pub stable : IsStable log page below f.written
  pub candidates : (x : List ℕ) → Contains slot.candidates x → IsImageOf log page below synced x
  pub settled : IsClean f → slot ≡ only (image_of log page synced)
  pub readable : IsTrue sure → (x : List ℕ) → Contains slot.readable x → x ≡ image_of log page f.written

-- what a page is, by its frame
abbrev pub IsPageAt : List Record → ℕ → ℕ → ℕ → Bool → Slot → Option Framed → Type 0
IsPageAt log page below synced sure slot None = IsStoredAt log page below synced slot
IsPageAt log page below synced sure slot (Some f) = IsFramedAt log page below synced sure slot f

-- So it is with every page, where `synced` gives the page_LSN of each page's image last synced, and the log below an offset
-- survives each crash.
pub record AreFramesOf (log : List Record) (synced : ℕ → ℕ) (below : ℕ) (v : Paged) : Type 0 where
  pub is_log : IsLog v.pages log
  pub each : (page : ℕ) → page < v.pages → IsPageAt log page below (synced page) v.sure (slot_of v page) (frame_of v page)
