-- How far the pages of a pool and what waits for them go: no further than an offset.
use Rattle.std.specs.Prelude.{◌≡◌, ℕ, ◌<◌, List, length, Option}
use Rattle.als_record.specs.declared.change.Change.{Change}
use Rattle.als_record.specs.Pages.{lsn_after}
use Rattle.als_frames.specs.Frames.{Framed, frame_of}
use Rattle.als_frames.specs.Images.{lsn_or}
use Rattle.als_page.specs.Changes.{AreNext}
use Rattle.als_pool.specs.Queues.{pending_of}
use Rattle.als_pool.specs.Pooled.{Pooled}

-- What waits for a page can be redone in order from its frame on, and the page is then still below an offset.
pub record WaitsBelow (end page : ℕ) (frame : Option Framed) (waits : List Change) : Type 0 where
  pub next : AreNext page (lsn_or frame 0) waits
  pub last : lsn_after (lsn_or frame 0) waits < end

-- So it is with each page.
pub record EndsBelow (end : ℕ) (v : Pooled) : Type 0 where
  pub paged : v.frames.pages ≡ length v.waits
  pub each : (page : ℕ) → page < length v.waits → WaitsBelow end page (frame_of v.frames page) (pending_of v.waits page)
