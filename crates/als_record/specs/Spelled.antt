-- Parts of a record that lie in bytes of another's, and are not copied.
use Rattle.std.specs.Prelude.{ℕ, ◌*◌, List, length, drop, Option, Some, None}
use Rattle.std.specs.Borrow.{Bor}
use Rattle.als_record.specs.declared.record.Body.{Body}
use Rattle.als_record.specs.declared.record.Body.TheVariants.{EndCheckpoint}
use Rattle.als_record.specs.Spelling.{Image}
use Rattle.als_record.specs.Reading.{half_at, transactions_at, pages_at}

-- the image that bytes are, absent without them
abbrev pub image_in : Option (Bor (List ℕ)) → Image
image_in None = None
image_in (Some bytes) = Some (record { items = bytes.now })

-- how many bytes they are
abbrev pub len_in : Option (Bor (List ℕ)) → ℕ
len_in None = 0
len_in (Some bytes) = length bytes.now

-- the body of an end_chkpt whose rows stand in these bytes, behind the two counts
abbrev pub rows_in : List ℕ → Body
rows_in bytes = EndCheckpoint (transactions_at (half_at 0 bytes) (drop 4 bytes)) (pages_at (half_at 2 bytes) (drop (21 * half_at 0 bytes) (drop 4 bytes)))
