-- The frames in a table by their pages' numbers.
use Rattle.std.specs.Prelude.{◌≡◌, ◌≢◌, ◌⊎◌, ℕ, ◌<◌, ◌≤◌, List, length, Option, Some, None, nat_eq, slice_get}
use Rattle.std.specs.Map.{lookup}
use Rattle.als_frames.specs.Frames.{Framed, IsFree}
use Rattle.als_frames.specs.Outcomes.{IsReplaced}

-- the entry at a place is a free frame, that of its page
pub record IsFreeAt (frames : List (ℕ × Framed)) (i : ℕ) : Type 0 where
  pub page : ℕ
  pub f : Framed
  pub here : slice_get frames i ≡ Some (page, f)
  pub found : lookup (nat_eq page) frames ≡ Some f
  pub free : IsFree f

-- no frame of a page is free
abbrev pub NoneIsFree : List (ℕ × Framed) → Type 0
NoneIsFree frames = (page : ℕ) (f : Framed) → lookup (nat_eq page) frames ≡ Some f → IsFree f → ⊥

-- one more frame can go beside the others, or, where as many as there may be are used, in the place of a free one
abbrev pub IsPlace : List (ℕ × Framed) → ℕ → Option ℕ → Type 0
IsPlace frames most None = length frames < most
IsPlace frames most (Some i) = (most ≤ length frames) × (i < length frames) × IsFreeAt frames i

-- one page's frame is this one, and the other pages' are as they were
pub record Puts (old new : List (ℕ × Framed)) (page : ℕ) (f : Framed) : Type 0 where
  pub frame : lookup (nat_eq page) new ≡ Some f
  pub others : (other : ℕ) → other ≢ page → lookup (nat_eq other) new ≡ lookup (nat_eq other) old

-- one page's frame is this one, and at most one of another page has gone, which was free
pub record Replaces (old new : List (ℕ × Framed)) (page : ℕ) (f : Framed) : Type 0 where
  pub frame : lookup (nat_eq page) new ≡ Some f
  pub others : (other : ℕ) → other ≢ page → (lookup (nat_eq other) new ≡ lookup (nat_eq other) old) ⊎ IsReplaced (lookup (nat_eq other) old) (lookup (nat_eq other) new)

-- a frame whose image last written is the page as it is now
abbrev pub written_frame : Framed → Framed
written_frame f = record f { written = f.content.lsn }

-- a frame of a page as its block has it
abbrev pub IsFresh : Framed → Type 0
IsFresh f = (f.written ≡ f.synced) × IsFree f
