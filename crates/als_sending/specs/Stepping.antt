-- One piece, read and sent.
use Rattle.std.specs.Prelude.{◌≡◌, ◌≤◌, ℕ, List, [], ◌∷◌, ◌++◌, length, Option}
use Rattle.std.specs.List.{AllByRecursion}
use Rattle.std.specs.Io.KnownBytes.{Appends}
use Rattle.als_wire.specs.Frames.{data_bytes}
use Rattle.als_wire.specs.Sending.{Puts}
use Rattle.als_sending.specs.Reads.{Read}
use Rattle.als_sending.specs.Sent.{reads_bytes}

-- so many bytes were read at an offset, and sent as a frame of that offset
pub record SendsOne (epoch at len : ℕ) (reads reads_now : List Read) (old new : Option (List ℕ)) : Type 0 where
  pub bytes : List ℕ
  pub long : length bytes ≡ len
  pub are : reads_now ≡ reads ++ record { at = at; bytes = bytes } ∷ []
  pub sent : Appends old new (data_bytes epoch at bytes)

-- a read at this offset, which fits a frame
abbrev pub IsReadAt : ℕ → Read → Type 0
IsReadAt at r = (r.at ≡ at) × (length r.bytes ≤ 65536)

-- they were not all: nothing was read, or a front of their frame was sent
pub record SendsPart (epoch at : ℕ) (reads reads_now : List Read) (old new : Option (List ℕ)) : Type 0 where
  pub next : List Read
  pub one : length next ≤ 1
  pub there : AllByRecursion (IsReadAt at) next
  pub are : reads_now ≡ reads ++ next
  pub more : Puts (reads_bytes epoch next) old new
