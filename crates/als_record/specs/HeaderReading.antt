-- How bytes are read as the header of a log.
use Rattle.std.specs.Prelude.{ℕ, Bool, not, ◌&&◌, List, length, take, Option, Some, None, Result, Ok, Err, nat_lt, ◌==◌, if◌then◌else◌, codes, bytes_eq}
use Rattle.als_record.specs.declared.header.LogHeader.{LogHeader}
use Rattle.als_record.specs.declared.fault.Fault.{Fault}
use Rattle.als_record.specs.declared.fault.Fault.TheVariants.{BadHeader}
use Rattle.als_record.specs.Reading.{word_at, is_within}

-- the text that a log begins with
abbrev pub is_magic : List ℕ → Bool
is_magic text = bytes_eq text (codes "ALSLOG01")

-- The header at the front of the bytes; None where more bytes are needed.
unfoldable pub read_header : List ℕ → Result (Option LogHeader) Fault
read_header bytes =
    if nat_lt (length bytes) 16 then Ok None
    else if not (is_magic (take 8 bytes) && is_within 1 4096 (word_at 8 bytes) && (word_at 12 bytes == 0)) then Err BadHeader
    else Ok (Some (record { pages = word_at 8 bytes }))
