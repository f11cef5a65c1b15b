-- The blocks of a file, in pieces of 128, which are made at the first block that is not zeros.
use Rattle.std.specs.Prelude.{◌≡◌, ◌⊎◌, ◌<◌, ◌≤◌, ◌+◌, ◌*◌, ℕ, List, [], length, slice_index_or}
use Rattle.als_disk.specs.Store.{zeros}
use Rattle.als_disk.specs.declared.trail.Trail.{Trail}
use Rattle.als_disk.specs.Trail.{newest_in}

-- a piece keeps none of its blocks or each
abbrev pub IsPiece : List (List ℕ) → Type 0
IsPiece piece = (length piece ≡ 0) ⊎ (length piece ≡ 128)

-- the content of a block of a piece: zeros where none is kept
abbrev pub content_at : List (List ℕ) → ℕ → List ℕ
content_at piece at = slice_index_or piece at zeros

-- a piece of a file, of zeros past the last one
abbrev pub piece_in : List (List (List ℕ)) → ℕ → List (List ℕ)
piece_in pieces p = slice_index_or pieces p []

-- the pieces from the first one on that is kept hold the last content written to each block
abbrev pub HoldNewest : ℕ → List (List (List ℕ)) → Trail → Type 0
HoldNewest first pieces trail =
    (p at : ℕ) → first ≤ p → at < 128 → content_at (piece_in pieces p) at ≡ newest_in trail (p * 128 + at)
