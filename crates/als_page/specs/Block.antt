-- The block of a page: 512 bytes, of which 32 are a head and 32 stand for each slot. Numbers are big-endian.
use Rattle.std.specs.Prelude.{ℕ, ◌+◌, ◌-◌, Bool, ◌||◌, ◌&&◌, List, ◌∷◌, ◌++◌, length, None, Some, is_none, nat_le, ◌==◌, if◌then◌else◌, replicate}
use Rattle.std.specs.List.{flat_map, list_all}
use Rattle.std.specs.Int.{w32, w64, to_be_bytes}
use Rattle.als_record.specs.Spelling.{Image}
use Rattle.als_record.specs.Pages.{PageState}

-- a slot: 0 for absent, else the value's length plus 1; then the value, and zeros to the slot's end
unfoldable pub slot_bytes : Image → List ℕ
slot_bytes None = replicate 32 0
slot_bytes (Some value) = (length value.items + 1) ∷ (value.items ++ replicate (31 - length value.items) 0)

-- the head of a page that was ever changed: page_LSN, page id, version 1, and 18 zeros
unfoldable pub head_bytes : ℕ → ℕ → List ℕ
head_bytes lsn id = to_be_bytes w64 lsn ++ (to_be_bytes w32 id ++ (0 ∷ 1 ∷ replicate 18 0))

-- the block of a page: zeros for the empty page, which no log ever changed
unfoldable pub block_of : ℕ → PageState → List ℕ
block_of id page =
    if page.lsn == 0 then replicate 512 0
    else head_bytes page.lsn id ++ flat_map slot_bytes page.slots

-- a page_LSN is one at which a record can stand, or the page is empty
abbrev pub is_page_lsn : ℕ → List Image → Bool
is_page_lsn lsn slots = nat_le 16 lsn || ((lsn == 0) && list_all is_none slots)
