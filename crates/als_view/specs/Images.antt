-- The images of all keys after commits.
use Rattle.std.specs.Prelude.{◌≡◌, ℕ, ◌+◌, ◌*◌, ◌<◌, ◌≤◌, List, length, slice_index_or, slice_set, nat_lt, ◌&&◌, fold, if◌then◌else◌}
use Rattle.als_record.specs.declared.key.Key.{Key}
use Rattle.als_record.specs.Spelling.{Image}
use Rattle.als_record.specs.Commits.{Commit, Write, seen_after}

-- where a key's image is: 15 slots a page
abbrev pub place_of : Key → ℕ
place_of k = k.page * 15 + k.slot

-- the images with one more write; a key outside the database has none
abbrev pub written : List Image → Write → List Image
written images w = if nat_lt w.key.slot 15 && nat_lt (place_of w.key) (length images) then slice_set images (place_of w.key) w.after else images

-- and with those of one more commit
abbrev pub written_by : List Image → Commit → List Image
written_by images c = fold written images c.writes

-- the images are what the keys have after these commits
pub record AreImagesAfter (images : List Image) (pages : ℕ) (commits : List Commit) : Type 0 where
  pub count : length images ≡ pages * 15
  pub each : (k : Key) (d : Image) → k.page < pages → k.slot ≤ 14 → slice_index_or images (place_of k) d ≡ seen_after commits k
