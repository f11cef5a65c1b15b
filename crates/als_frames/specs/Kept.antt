-- What the frames keep between calls.
use Rattle.std.specs.Prelude.{◌≡◌, ℕ, ◌<◌, ◌≤◌, List, length, Some, nat_eq}
use Rattle.std.specs.Map.{lookup}
use Rattle.als_frames.specs.declared.zones.Zones.{Zones}
use Rattle.als_frames.specs.Frames.{Framed}
use Rattle.als_frames.specs.Leases.{count_lent}
use Rattle.als_frames.specs.Zones.{AreZoned}

-- each page has a block, a frame is that of its page, and there are no more frames than there may be
pub record IsKept (pages most blocks : ℕ) (frames : List (ℕ × Framed)) : Type 0 where
  pub stored : pages ≤ blocks
  pub few : length frames ≤ most
  pub numbered : (page : ℕ) (f : Framed) → lookup (nat_eq page) frames ≡ Some f → (f.id ≡ page) × (page < pages)

-- So it is, the frames stand in their order, there is the room that is told, and the lent pages are counted.
pub record IsHeld (pages most blocks : ℕ) (frames : List (ℕ × Framed)) (z : Zones) (room spare lent : ℕ) : Type 0 where
  pub kept : IsKept pages most blocks frames
  pub zoned : AreZoned z frames
  pub has_room : room ≤ spare
  pub counted : lent ≡ count_lent pages frames
