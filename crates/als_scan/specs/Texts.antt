-- The bytes of a device of which each block has one content: byte o is byte o mod 512 of block o / 512.
use Rattle.std.specs.Prelude.{◌≡◌, ℕ, zero, suc, ◌/◌, ◌%◌, List, [], ◌∷◌, length, get_or, slice_index, slice_index_or}
use Rattle.als_disk.specs.Slot.{Slot, only}
use Rattle.als_log.specs.Texts.{AllHaveText}

unfoldable pub byte_at : (ℕ → Slot) → ℕ → ℕ
byte_at slots o = slice_index (slice_index_or (slots (o / 512)).readable 0 []) (o % 512)

-- so many of them from an offset on
unfoldable pub text_from : (ℕ → Slot) → ℕ → ℕ → List ℕ
text_from slots at zero = []
text_from slots at (suc n) = byte_at slots at ∷ text_from slots (suc at) n

-- those below an offset
abbrev pub text_of : (ℕ → Slot) → ℕ → List ℕ
text_of slots n = text_from slots 0 n

-- whatever a read gives has the text below a mark, and the text has no more
pub record StandsBelow (slots : ℕ → Slot) (text : List ℕ) (mark : ℕ) : Type 0 where
  pub has : AllHaveText (λ b. (slots b).readable) text mark
  pub size : length text ≡ mark

-- what stands in so many blocks, from one on
unfoldable pub slots_from : ℕ → ℕ → (ℕ → Slot) → List Slot
slots_from i zero slots = []
slots_from i (suc count) slots = slots i ∷ slots_from (suc i) count slots

-- what stands at a place of these blocks; past them one empty content
unfoldable pub slot_in : List Slot → ℕ → Slot
slot_in slots i = get_or slots i (only [])
