-- How frames stand in their order: those written since the last sync, then the others that are not free, then the free ones.
use Rattle.std.specs.Prelude.{◌≡◌, ◌≢◌, ℕ, ◌<◌, ◌≤◌, List, length, Some, slice_get, nat_eq}
use Rattle.std.specs.Map.{lookup}
use Rattle.als_frames.specs.declared.zones.Zones.{Zones}
use Rattle.als_frames.specs.Frames.{Framed, IsFree}
use Rattle.als_frames.specs.Table.{Puts}

-- no image of a frame is newer than the next one: the one last synced, the one last written, the page as it is now
pub record IsOrdered (f : Framed) : Type 0 where
  pub synced : f.synced ≤ f.written
  pub written : f.written ≤ f.content.lsn

-- a frame may stand at a place: it is free exactly from a place on, and was not written since the last sync from another one on
pub record StandsAt (z : Zones) (i : ℕ) (f : Framed) : Type 0 where
  pub ordered : IsOrdered f
  pub dirty : i < z.dirty → IsFree f → ⊥
  pub free : z.dirty ≤ i → IsFree f
  pub unwritten : z.written ≤ i → f.written ≡ f.synced

-- each frame stands where it may
pub record AreZoned (z : Zones) (frames : List (ℕ × Framed)) : Type 0 where
  pub order : z.written ≤ z.dirty
  pub within : z.dirty ≤ length frames
  pub each : (i page : ℕ) (f : Framed) → slice_get frames i ≡ Some (page, f) → StandsAt z i f

-- the frame of a page is at a place
pub record IsFrameAt (frames : List (ℕ × Framed)) (i page : ℕ) (f : Framed) : Type 0 where
  pub here : slice_get frames i ≡ Some (page, f)
  pub found : lookup (nat_eq page) frames ≡ Some f

-- Each frame but one stands where it may. That one stood with those that are not free, and may be free now.
pub record AreZonedBut (i : ℕ) (z : Zones) (frames : List (ℕ × Framed)) : Type 0 where
  pub order : z.written ≤ z.dirty
  pub within : z.dirty ≤ length frames
  pub inside : i < z.dirty
  pub page : ℕ
  pub f : Framed
  pub at : IsFrameAt frames i page f
  pub ordered : IsOrdered f
  pub unwritten : z.written ≤ i → f.written ≡ f.synced
  pub others : (j other : ℕ) (g : Framed) → j ≢ i → slice_get frames j ≡ Some (other, g) → StandsAt z j g

-- the frame at a place becomes this one of its page, and no other one changes
pub record SetsAt (old new : List (ℕ × Framed)) (i page : ℕ) (f : Framed) : Type 0 where
  pub here : slice_get new i ≡ Some (page, f)
  pub others : (j : ℕ) → j ≢ i → slice_get new j ≡ slice_get old j
  pub len : length new ≡ length old
  pub puts : Puts old new page f
  pub was : (g : Framed) → slice_get old i ≡ Some (page, g) → lookup (nat_eq page) old ≡ Some g

-- the frames at two places stand in each other's
pub record Swaps (old new : List (ℕ × Framed)) (a b : ℕ) : Type 0 where
  pub first : slice_get new a ≡ slice_get old b
  pub second : slice_get new b ≡ slice_get old a
  pub others : (j : ℕ) → j ≢ a → j ≢ b → slice_get new j ≡ slice_get old j
  pub len : length new ≡ length old
  pub lookups : (page : ℕ) → lookup (nat_eq page) new ≡ lookup (nat_eq page) old
