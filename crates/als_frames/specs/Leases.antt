-- Frames whose pages are lent.
use Rattle.std.specs.Prelude.{◌≡◌, ℕ, zero, suc, ◌+◌, ◌≤◌, List, Option, Some, None, nat_eq}
use Rattle.std.specs.Map.{lookup}
use Rattle.als_record.specs.Pages.{PageState}
use Rattle.als_frames.specs.declared.lent.Lent.{Lent}
use Rattle.als_frames.specs.Frames.{Framed, Paged, frame_of}
use Rattle.als_frames.specs.Outcomes.{SetsFrame}

-- a frame while its page is lent
abbrev pub lent_frame : Lent → Framed → Framed
lent_frame lent f = record f { lent = Some lent }

-- a frame once a page with this content was taken back
abbrev pub returned_frame : PageState → Framed → Framed
returned_frame content f = record f { content = content; lent = None }

-- a frame once its lease was recalled
abbrev pub recalled_frame : Framed → Framed
recalled_frame f = record f { lent = None }

-- the lease of the page in a frame, if there is the frame and the page is lent
abbrev pub lent_in : Option Framed → Option Lent
lent_in None = None
lent_in (Some f) = f.lent

abbrev pub lent_of : Paged → ℕ → Option Lent
lent_of v page = lent_in (frame_of v page)

-- 1 for a page that is lent, else 0
abbrev pub lent_flag : Option Lent → ℕ
lent_flag None = 0
lent_flag (Some lent) = 1

-- how many of the first pages are lent
unfoldable pub count_lent : ℕ → List (ℕ × Framed) → ℕ
count_lent zero frames = 0
count_lent (suc pages) frames = count_lent pages frames + lent_flag (lent_in (lookup (nat_eq pages) frames))

-- how many pages are lent
abbrev pub leases_of : Paged → ℕ
leases_of v = count_lent v.pages v.frames

-- a page is resident and is not lent
pub record CanLend (v : Paged) (page : ℕ) : Type 0 where
  pub f : Framed
  pub resident : frame_of v page ≡ Some f
  pub free_of_lease : f.lent ≡ None

-- a page is lent
pub record IsLent (v : Paged) (page : ℕ) : Type 0 where
  pub f : Framed
  pub lent : Lent
  pub resident : frame_of v page ≡ Some f
  pub is : f.lent ≡ Some lent

-- a page is lent, and this content of it is not older than the one that it was lent with
pub record CanTakeBack (v : Paged) (page : ℕ) (content : PageState) : Type 0 where
  pub is_lent : IsLent v page
  pub newer : is_lent.f.content.lsn ≤ content.lsn

-- A resident page that is not lent is lent, and no other frame changes.
pub record Lends (old new : Paged) (page : ℕ) (lent : Lent) : Type 0 where
  pub f : Framed
  pub resident : frame_of old page ≡ Some f
  pub free_of_lease : f.lent ≡ None
  pub sets : SetsFrame old new page (lent_frame lent f)
  pub same : new ≡ record old { frames = new.frames }

-- A page has this content from now on and is no longer lent, and no other frame changes.
pub record TakesBack (old new : Paged) (page : ℕ) (content : PageState) : Type 0 where
  pub f : Framed
  pub resident : frame_of old page ≡ Some f
  pub sets : SetsFrame old new page (returned_frame content f)
  pub same : new ≡ record old { frames = new.frames }

-- A page is no longer lent, and no other frame changes.
pub record Recalls (old new : Paged) (page : ℕ) : Type 0 where
  pub f : Framed
  pub resident : frame_of old page ≡ Some f
  pub sets : SetsFrame old new page (recalled_frame f)
  pub same : new ≡ record old { frames = new.frames }
