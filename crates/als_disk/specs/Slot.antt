-- What stands in one block of a device: what a crash may leave there, and what a read may give.
use Rattle.std.specs.Prelude.{◌≡◌, ◌≢◌, ◌<◌, ◌⊎◌, ℕ, List, [], ◌∷◌, ◌++◌, length, slice_index, Contains}

-- One block. Its candidates are the contents that a crash may leave, oldest first: that of the last sync, then that
-- of each write since. Its readable contents are those that a read may give.
pub record Slot : Type 0 where
  pub candidates : List (List ℕ)
  pub readable : List (List ℕ)

-- a block with one content, which is synced
abbrev pub only : List ℕ → Slot
only content = record { candidates = content ∷ []; readable = content ∷ [] }

-- the block has one content, and it is synced
abbrev pub IsSettled : Slot → Type 0
IsSettled slot = (content : List ℕ) × (slot ≡ only content)

-- after a write that succeeded: a crash may leave its content too, and a read gives it
abbrev pub written : Slot → List ℕ → Slot
written slot content = record { candidates = slot.candidates ++ content ∷ []; readable = content ∷ [] }

-- after a write that is in doubt: a crash may leave its content too, and a read may give it or what it gave before
abbrev pub tried : Slot → List ℕ → Slot
tried slot content = record { candidates = slot.candidates ++ content ∷ []; readable = slot.readable ++ content ∷ [] }

-- a write that failed did nothing, or all that it should, or is in doubt
abbrev pub FailsToWrite : Slot → Slot → List ℕ → Type 0
FailsToWrite old new content = (new ≡ old) ⊎ (new ≡ tried old content) ⊎ (new ≡ written old content)

-- the block is left with one content, one that a read might have given
pub record KeepsReadable (old new : Slot) : Type 0 where
  pub content : List ℕ
  pub was_readable : Contains old.readable content
  pub left : new ≡ only content

-- the block is left with one content, one of its candidates
pub record KeepsCandidate (old new : Slot) : Type 0 where
  pub content : List ℕ
  pub was_candidate : Contains old.candidates content
  pub left : new ≡ only content

-- each block is as it was
abbrev pub SameBlocks : (ℕ → Slot) → (ℕ → Slot) → Type 0
SameBlocks old new = (k : ℕ) → new k ≡ old k

-- each block but this one is as it was
abbrev pub SameBlocksBut : ℕ → (ℕ → Slot) → (ℕ → Slot) → Type 0
SameBlocksBut i old new = (k : ℕ) → k ≢ i → new k ≡ old k

-- the bytes of a block
pub record IsBlock (content : List ℕ) : Type 0 where
  pub len : length content ≡ 512
  pub bytes : (i : ℕ) → slice_index content i < 256

-- each content is that of a block
abbrev pub HoldsBlocks : (ℕ → Slot) → Type 0
HoldsBlocks slots = (k : ℕ) (content : List ℕ) → Contains (slots k).candidates content → IsBlock content

-- a read of each block may give something, and nothing that a crash may not leave
pub record GivesCandidates (slots : ℕ → Slot) : Type 0 where
  pub gives : (k : ℕ) → 0 < length (slots k).readable
  pub candidates : (k : ℕ) (content : List ℕ) → Contains (slots k).readable content → Contains (slots k).candidates content
