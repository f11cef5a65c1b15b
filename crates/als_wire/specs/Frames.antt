-- The one spelling of a frame as bytes. Numbers are big-endian.
use Rattle.std.specs.Prelude.{◌≤◌, ◌<◌, ◌+◌, ◌^◌, ◌==◌, ℕ, Bool, false, List, ◌∷◌, ◌++◌, length}
use Rattle.std.specs.Int.{w32, w64, to_be_bytes}
use Rattle.std.specs.List.{flat_map}
use Rattle.als_record.specs.declared.lsn.Lsn.{Lsn}
use Rattle.als_record.specs.LogText.{header_bytes}
use Rattle.als_epochs.specs.Histories.{IsHistory, seals_bytes}
use Rattle.als_wire.specs.declared.tag.Tag.{Tag}
use Rattle.als_wire.specs.declared.tag.Tag.TheVariants as tag
use Rattle.als_wire.specs.declared.frame.Frame.{Frame}
use Rattle.als_wire.specs.declared.frame.Frame.TheVariants.{Data, Acknowledged, Resume, Epochs}

-- the letters F, A, Q and E
abbrev pub byte_of : Tag → ℕ
byte_of tag.Data = 70
byte_of tag.Acknowledged = 65
byte_of tag.Resume = 81
byte_of tag.Epochs = 69

abbrev pub tag_of : Frame → Tag
tag_of (Data epoch offset bytes) = tag.Data
tag_of (Acknowledged lsn) = tag.Acknowledged
tag_of (Resume from header history) = tag.Resume
tag_of (Epochs history) = tag.Epochs

-- the front of a Data frame: its tag, its epoch, where its bytes stand, and how many they are
unfoldable pub head_bytes : ℕ → ℕ → ℕ → List ℕ
head_bytes epoch offset len = 70 ∷ to_be_bytes w32 epoch ++ to_be_bytes w64 offset ++ to_be_bytes w32 len

-- a Data frame
abbrev pub data_bytes : ℕ → ℕ → List ℕ → List ℕ
data_bytes epoch offset bytes = head_bytes epoch offset (length bytes) ++ bytes

-- an Acknowledged frame
abbrev pub acknowledged_bytes : ℕ → List ℕ
acknowledged_bytes lsn = 65 ∷ to_be_bytes w64 lsn

-- the bytes of Acknowledged frames with these LSNs
abbrev pub answers_bytes : List Lsn → List ℕ
answers_bytes answers = flat_map (λ lsn. acknowledged_bytes lsn.0) answers

-- a history: the epoch, and the seals
unfoldable pub history_bytes : List ℕ → List ℕ
history_bytes seals = to_be_bytes w32 (length seals) ++ seals_bytes seals

-- the front of a Resume frame: its tag, and where the follower goes on
abbrev pub resume_head : ℕ → List ℕ
resume_head from = 81 ∷ to_be_bytes w64 from

-- what stands before the history of a Resume frame
abbrev pub resume_front : ℕ → ℕ → List ℕ
resume_front from pages = resume_head from ++ header_bytes pages

-- a Resume frame
abbrev pub resume_bytes : ℕ → ℕ → List ℕ → List ℕ
resume_bytes from pages seals = resume_front from pages ++ history_bytes seals

-- an Epochs frame
abbrev pub epochs_bytes : List ℕ → List ℕ
epochs_bytes seals = 69 ∷ history_bytes seals

abbrev pub frame_bytes : Frame → List ℕ
frame_bytes (Data epoch offset bytes) = data_bytes epoch offset bytes
frame_bytes (Acknowledged lsn) = acknowledged_bytes lsn.0
frame_bytes (Resume from header history) = resume_bytes from.0 header.pages history
frame_bytes (Epochs history) = epochs_bytes history

-- so many bytes may stand there in one frame
abbrev pub IsPiece : ℕ → ℕ → Type 0
IsPiece offset len = (len ≤ 65536) × (offset + len < 2 ^ 64)

-- the same in an epoch
abbrev pub IsHead : ℕ → ℕ → ℕ → Type 0
IsHead epoch offset len = (epoch ≤ 32) × IsPiece offset len

-- what may go over a stream
abbrev pub IsFrame : Frame → Type 0
IsFrame (Data epoch offset bytes) = IsHead epoch offset (length bytes)
IsFrame (Acknowledged lsn) = lsn.0 < 2 ^ 64
IsFrame (Resume from header history) = (from.0 < 2 ^ 64) × (1 ≤ header.pages) × (header.pages ≤ 4096) × IsHistory history
IsFrame (Epochs history) = IsHistory history

-- a Data frame with no bytes, which ends a session
abbrev pub is_last : Frame → Bool
is_last (Data epoch offset bytes) = length bytes == 0
is_last (Acknowledged lsn) = false
is_last (Resume from header history) = false
is_last (Epochs history) = false
