-- What is sent, as frames and as bytes of a text.
use Rattle.std.proofs.Common.{◌≡◌, ℕ, ◌+◌, ◌<◌, ◌≤◌, max, List, [], ◌∷◌, ◌++◌, length, map, refl, ap, ◌∙◌, arith, inl, inr, suc}
use Rattle.std.proofs.lemmas.Bool.{cases_lt}
use Rattle.std.specs.Prelude.{Contains}
use Rattle.std.specs.List.{AllByRecursion, flat_map}
use Rattle.std.proofs.lemmas.List.Concat.{flat_map-cons}
use Rattle.als_epochs.specs.Histories.{GoesOn}
use Rattle.als_wire.specs.Frames.{data_bytes, epochs_bytes, frame_bytes}
use Rattle.als_ship.specs.Follows.{IsTrueFrame}
use Rattle.als_sending.specs.Reads.{Read, AreOf}
use Rattle.als_sending.specs.Sent.{reads_bytes, Reach, piece_frame, frames_of}

pieces_true : (texts : ℕ → List ℕ) (seals : List ℕ) (epoch : ℕ) (pieces : List Read) → AreOf (texts epoch) pieces → AllByRecursion (IsTrueFrame texts seals) (map (piece_frame epoch) pieces)
pieces_true texts seals epoch [] are = tt
pieces_true texts seals epoch (r ∷ pieces) are = (are.0, pieces_true texts seals epoch pieces are.1)

pub frames_true : (texts : ℕ → List ℕ) (seals own : List ℕ) (pieces : List Read) → GoesOn own seals → AreOf (texts (length own)) pieces → AllByRecursion (IsTrueFrame texts seals) (frames_of own pieces)
frames_true texts seals own pieces on are = (on, pieces_true texts seals (length own) pieces are)

pieces_spelled : (epoch : ℕ) (pieces : List Read) → flat_map frame_bytes (map (piece_frame epoch) pieces) ≡ reads_bytes epoch pieces
pieces_spelled epoch [] = refl
pieces_spelled epoch (r ∷ pieces) =
    flat_map-cons frame_bytes (piece_frame epoch r) (map (piece_frame epoch) pieces) ∙ ap (λ (bs : List ℕ). data_bytes epoch r.at r.bytes ++ bs) (pieces_spelled epoch pieces)

pub frames_spelled : (own : List ℕ) (pieces : List Read) → flat_map frame_bytes (frames_of own pieces) ≡ epochs_bytes own ++ reads_bytes (length own) pieces
frames_spelled own pieces = ap (λ (bs : List ℕ). epochs_bytes own ++ bs) (pieces_spelled (length own) pieces)

-- ---- no gap

-- a piece has the byte at an offset
abbrev HasAt : List Read → ℕ → Type 0
HasAt pieces at = (r : Read) × Contains pieces r × (r.at ≤ at) × (at < r.at + length r.bytes)

has_later : (first : Read) (pieces : List Read) (at : ℕ) → HasAt pieces at → HasAt (first ∷ pieces) at
has_later first pieces at (r, (i, within, is), low, high) = (r, (suc i, omega (arith, within), is), low, high)

pub pieces_cover : (from to at : ℕ) (pieces : List Read) → Reach from pieces to → from ≤ at → at < to → HasAt pieces at
pieces_cover from to at [] is low high = absurd (omega (arith, is, low, high))
pieces_cover from to at (r ∷ pieces) are low high =
    elim (cases_lt at (r.at + length r.bytes)) [
      | inl here ↦ (r, (0, omega arith, refl), omega (arith, are.0, low), here)
      | inr past ↦ has_later r pieces at (pieces_cover (max from (r.at + length r.bytes)) to at pieces are.3 (omega (arith, low, past)) high)
    ]
