-- What was read of a log, and what it is worth.
use Rattle.std.specs.Prelude.{◌≡◌, ℕ, List, length}
use Rattle.std.specs.List.{AllByRecursion}
use Rattle.als_ship.specs.Wire.{bytes_at}

-- bytes that were read at an offset
pub record Read : Type 0 where
  pub at : ℕ
  pub bytes : List ℕ

-- they are the bytes of a text at that offset
abbrev pub IsOf : List ℕ → Read → Type 0
IsOf text r = bytes_at text r.at (length r.bytes) ≡ r.bytes

-- all reads are of one text. Over a file this is a premise: that what is read below the end that the log told is the log's text.
abbrev pub AreOf : List ℕ → List Read → Type 0
AreOf text reads = AllByRecursion (IsOf text) reads
