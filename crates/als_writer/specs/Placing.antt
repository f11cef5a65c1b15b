-- What a writer knows of the log that it writes behind: what its keys have.
use Rattle.std.specs.Prelude.{◌≡◌, ℕ, ◌<◌, List, length, slice_index_or}
use Rattle.als_record.specs.declared.record.Record.{Record}
use Rattle.als_record.specs.Spelling.{Image}
use Rattle.als_record.specs.Images.{image_now}
use Rattle.als_record.specs.Commits.{Write}

-- what the key of each write has
abbrev pub AreBefores : List Record → List Write → List Image → Type 0
AreBefores log ws befores = (i : ℕ) (w : Write) (b : Image) → i < length ws → w ≡ slice_index_or ws i w → b ≡ slice_index_or befores i b → b ≡ image_now log w.key
