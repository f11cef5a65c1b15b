-- A node that takes in a log text.
use Rattle.std.specs.Prelude.{◌≡◌, ℕ, List, length}
use Rattle.als_record.specs.LogText.{log_text}
use Rattle.als_engine.specs.Machine.{Machine}
use Rattle.als_ship.specs.Epochs.{AreEpochs}
use Rattle.als_ship.specs.Follows.{HoldsFront}
use Rattle.als_ship.specs.Wire.{bytes_at}

-- Where the text of this epoch has these bytes at this offset, a node whose history and log were fronts of those of all epochs still has such ones.
abbrev pub KeepsFrontOf : ℕ → ℕ → List ℕ → Machine → Machine → Type 0
KeepsFrontOf epoch at bytes old new =
    (texts : ℕ → List ℕ) (seals : List ℕ) → AreEpochs texts seals → bytes_at (texts epoch) at (length bytes) ≡ bytes → HoldsFront texts seals old → HoldsFront texts seals new

-- The log of a node that held a front of this text, under a front of this history, is now the text, no byte more or less.
abbrev pub Fills : List ℕ → List ℕ → Machine → Machine → Type 0
Fills history text old new = HoldsFront (λ _. text) history old → log_text new.held.pages new.held.log ≡ text
