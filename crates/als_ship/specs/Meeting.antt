-- How a shipper meets a follower, of a text that begins with its header.
use Rattle.std.specs.Prelude.{◌≡◌, ℕ, List, length, take, Option}
use Rattle.als_record.specs.declared.header.LogHeader.{LogHeader}
use Rattle.als_record.specs.LogText.{header_bytes}
use Rattle.als_wire.specs.Frames.{epochs_bytes}
use Rattle.als_wire.specs.Reading.{IsHeader}
use Rattle.als_wire.specs.Sending.{Puts}
use Rattle.als_ship.specs.declared.fault.Fault.{Fault}
use Rattle.als_ship.specs.Wire.{IsMet, FailsToServe}

-- this is the header of the text
pub record IsHeaderOf (text : List ℕ) (header : LogHeader) : Type 0 where
  pub begins : take 16 text ≡ header_bytes header.pages
  pub range : IsHeader header

-- a follower of the text's header was met
abbrev pub MeetsOne : List ℕ → List ℕ → ℕ → Option (List ℕ) → Option (List ℕ) → Option (List ℕ) → Option (List ℕ) → Type 0
MeetsOne text own from asked between old then = (header : LogHeader) × IsHeaderOf text header × IsMet text own from header.pages asked between old then

-- it was not: nothing was sent but the own history or a front of it
abbrev pub MeetsInVain : List ℕ → List ℕ → Fault → Option (List ℕ) → Option (List ℕ) → Option (List ℕ) → Type 0
MeetsInVain text own fault asked old then =
    (header : LogHeader) × IsHeaderOf text header × FailsToServe header own (length text) fault asked × Puts (epochs_bytes own) old then
