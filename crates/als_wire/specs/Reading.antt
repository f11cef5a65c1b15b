-- Why no frame is read.
use Rattle.std.specs.Prelude.{◌≡◌, ◌≢◌, ◌≤◌, ◌<◌, ◌^◌, ◌⊎◌, ℕ, List, [], ◌∷◌, ◌++◌, length, Option, Some, Ok}
use Rattle.std.specs.Io.KnownBytes.{Consumes}
use Rattle.als_record.specs.declared.header.LogHeader.{LogHeader}
use Rattle.als_record.specs.HeaderReading.{read_header}
use Rattle.als_epochs.specs.Histories.{IsHistory, seals_bytes}
use Rattle.als_wire.specs.declared.tag.Tag.{Tag}
use Rattle.als_wire.specs.declared.tag.Tag.TheVariants as tag
use Rattle.als_wire.specs.declared.fault.Fault.{Fault}
use Rattle.als_wire.specs.declared.fault.Fault.TheVariants.{BadHeader, Memory, BadFrame, Cut, Stream}
use Rattle.als_wire.specs.Faults.{IsOfStream}
use Rattle.als_wire.specs.Frames.{byte_of, head_bytes, history_bytes, resume_head, resume_front, IsHead}

-- a header of a log
abbrev pub IsHeader : LogHeader → Type 0
IsHeader header = (1 ≤ header.pages) × (header.pages ≤ 4096)

-- the front of a Data frame whose epoch is above 32, or whose bytes are too many, or end past the greatest offset
pub record IsNoPiece (wanted : Tag) (bytes : List ℕ) : Type 0 where
  pub for_data : wanted ≡ tag.Data
  pub epoch : ℕ
  pub offset : ℕ
  pub len : ℕ
  pub epoch_fits : epoch < 2 ^ 32
  pub offset_fits : offset < 2 ^ 64
  pub len_fits : len < 2 ^ 32
  pub none : IsHead epoch offset len → ⊥
  pub spelled : bytes ≡ head_bytes epoch offset len

-- Bytes that begin no history: its epoch is above 32, or its seals fall. They are at most an epoch and 32 seals.
pub record IsNoHistory (bytes : List ℕ) : Type 0 where
  pub few : length bytes ≤ 260
  pub none : (seals more rest : List ℕ) → IsHistory seals → bytes ++ more ≡ history_bytes seals ++ rest → ⊥

-- Bytes that are the seals of no history of this epoch.
pub record AreNoSeals (epoch : ℕ) (bytes : List ℕ) : Type 0 where
  pub none : (seals rest : List ℕ) → IsHistory seals → length seals ≡ epoch → bytes ≡ seals_bytes seals ++ rest → ⊥

-- what stands before the history of a frame with this tag
abbrev pub IsFrontOf : Tag → List ℕ → Type 0
IsFrontOf tag.Data front = ⊥
IsFrontOf tag.Acknowledged front = ⊥
IsFrontOf tag.Resume front = (from pages : ℕ) × (from < 2 ^ 64) × (pages ≤ 4096) × (front ≡ resume_front from pages)
IsFrontOf tag.Epochs front = front ≡ 69 ∷ []

-- the front of a frame, and what begins no history behind it
pub record IsNoEpochs (wanted : Tag) (bytes : List ℕ) : Type 0 where
  pub front : List ℕ
  pub part : List ℕ
  pub stands : IsFrontOf wanted front
  pub refused : IsNoHistory part
  pub spelled : bytes ≡ front ++ part

-- Bytes that begin no frame with this tag: the byte of another one, the front of a Data frame that may not come, or a history
-- that is none. Nothing behind them is looked at.
abbrev pub IsNoFrame : Tag → List ℕ → Type 0
IsNoFrame wanted bytes =
    ((byte : ℕ) × (byte ≢ byte_of wanted) × (bytes ≡ byte ∷ [])) ⊎ (IsNoPiece wanted bytes ⊎ IsNoEpochs wanted bytes)

-- bytes that are read as no header of a log
abbrev pub IsNoHeader : List ℕ → Type 0
IsNoHeader bytes = (found : LogHeader) → read_header bytes ≡ Ok (Some found) → ⊥

-- a Resume frame with sixteen bytes that are no header
pub record IsNoResume (wanted : Tag) (bytes : List ℕ) : Type 0 where
  pub for_resume : wanted ≡ tag.Resume
  pub from : ℕ
  pub header : List ℕ
  pub len : length header ≡ 16
  pub damaged : IsNoHeader header
  pub spelled : bytes ≡ resume_head from ++ header

-- the front of a Data frame that may come, and as many of its bytes as were read
pub record IsPieceBegun (wanted : Tag) (bytes : List ℕ) : Type 0 where
  pub for_data : wanted ≡ tag.Data
  pub epoch : ℕ
  pub offset : ℕ
  pub len : ℕ
  pub more : List ℕ
  pub head : IsHead epoch offset len
  pub spelled : bytes ≡ head_bytes epoch offset len ++ more

-- Why no frame with this tag was read, and what was read. The stream may end or fail at any time.
abbrev pub FailsToRead : Tag → Fault → Option (List ℕ) → Option (List ℕ) → Type 0
FailsToRead wanted BadHeader old new = (bytes : List ℕ) × IsNoResume wanted bytes × Consumes old new bytes
FailsToRead wanted Memory old new = (bytes : List ℕ) × IsPieceBegun wanted bytes × Consumes old new bytes
FailsToRead wanted BadFrame old new = (bytes : List ℕ) × IsNoFrame wanted bytes × Consumes old new bytes
FailsToRead wanted Cut old new = Unit {0}
FailsToRead wanted Stream old new = Unit {0}

-- the stream has ended or failed, or there was no memory for what comes from it
abbrev pub FailsToFill : Fault → Option (List ℕ) → Option (List ℕ) → Type 0
FailsToFill fault old new = IsOfStream fault ⊎ ((fault ≡ Memory) × (more : List ℕ) × Consumes old new more)

-- the stream has ended or failed, or what came from it begins no history
abbrev pub FailsToRecall : Fault → Option (List ℕ) → Option (List ℕ) → Type 0
FailsToRecall fault old new = IsOfStream fault ⊎ ((fault ≡ BadFrame) × (part : List ℕ) × IsNoHistory part × Consumes old new part)
