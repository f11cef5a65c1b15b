-- What is sent: the own history, and then Data frames of its epoch, each with bytes that were read at its offset.
use Rattle.std.specs.Prelude.{◌≡◌, ◌≤◌, ◌<◌, ◌+◌, ◌⊎◌, ℕ, max, List, [], ◌∷◌, ◌++◌, length, map, Option}
use Rattle.std.specs.List.{AllByRecursion}
use Rattle.std.specs.Io.KnownBytes.{Appends}
use Rattle.als_wire.specs.declared.frame.Frame.{Frame}
use Rattle.als_wire.specs.declared.frame.Frame.TheVariants.{Data, Epochs}
use Rattle.als_wire.specs.Frames.{data_bytes, epochs_bytes}
use Rattle.als_wire.specs.Sending.{Puts}
use Rattle.als_sending.specs.Reads.{Read, AreOf}

-- the bytes of Data frames of an epoch, one behind the other, one for each of these reads
abbrev pub reads_bytes : ℕ → List Read → List ℕ
reads_bytes epoch [] = []
reads_bytes epoch (r ∷ reads) = data_bytes epoch r.at r.bytes ++ reads_bytes epoch reads

-- The reads leave no gap: each begins at or below where those before it reached, the first one at or below the first offset, and has 1 to
-- 65,536 bytes. They reach the second offset.
abbrev pub Reach : ℕ → List Read → ℕ → Type 0
Reach from [] to = from ≡ to
Reach from (r ∷ reads) to = (r.at ≤ from) × (0 < length r.bytes) × (length r.bytes ≤ 65536) × Reach (max from (r.at + length r.bytes)) reads to

-- a read that may be sent next: it begins at or below what was reached, and fits a frame
abbrev pub IsNext : ℕ → Read → Type 0
IsNext to r = (r.at ≤ to) × (length r.bytes ≤ 65536)

-- The own history was told, and then whole Data frames of its epoch, which leave no gap, and then a front of one more at most, or all of it. The bytes of
-- each are those of the text at its offset.
pub record SendsPieces (text own : List ℕ) (old new : Option (List ℕ)) : Type 0 where
  pub from : ℕ
  pub to : ℕ
  pub pieces : List Read
  pub next : List Read
  pub then : Option (List ℕ)
  pub sent : Option (List ℕ)
  pub told : Appends old then (epochs_bytes own)
  pub reach : Reach from pieces to
  pub whole : Appends then sent (reads_bytes (length own) pieces)
  pub one : length next ≤ 1
  pub follows : AllByRecursion (IsNext to) next
  pub more : Puts (reads_bytes (length own) next) sent new
  pub are : AreOf text (pieces ++ next)

-- What was sent are true frames of the text and the history: the own history or a front of it, or that and pieces.
abbrev pub SendsTrue : List ℕ → List ℕ → Option (List ℕ) → Option (List ℕ) → Type 0
SendsTrue text own old new = Puts (epochs_bytes own) old new ⊎ SendsPieces text own old new

-- a piece as a frame
abbrev pub piece_frame : ℕ → Read → Frame
piece_frame epoch r = Data epoch r.at r.bytes

-- the own history and pieces, as frames
abbrev pub frames_of : List ℕ → List Read → List Frame
frames_of own reads = Epochs own ∷ map (piece_frame (length own)) reads
