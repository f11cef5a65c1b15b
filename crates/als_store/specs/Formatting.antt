-- What devices hold that could not be formatted.
use Rattle.std.specs.Prelude.{◌≡◌, ◌⊎◌, ◌+◌, ℕ, List, Contains}
use Rattle.als_disk.specs.Slot.{Slot, SameBlocks}
use Rattle.als_disk.specs.Store.{zeros}
use Rattle.als_ckpt.specs.Control.{Spells, first_state}
use Rattle.als_store.specs.Stored.{Stored, formatted, numbered_pool}

-- The store of a new database of so many pages and frames, whose first lease gets this number. The
-- pages' device has so many blocks, had failed and was called so often before; the log's has so many
-- blocks; all had failed so often.
abbrev pub FormatsStore : ℕ → ℕ → ℕ → ℕ → ℕ → ℕ → ℕ → ℕ → Stored → Type 0
FormatsStore first pages frames page_blocks page_failures page_attempts log_blocks failures s =
    s ≡ formatted pages
    (numbered_pool first pages frames page_blocks page_failures (page_attempts + pages + 1))
    log_blocks failures s.attempts

-- a block that is no control block any more, or that of the new database
abbrev pub IsCleared : ℕ → List ℕ → Type 0
IsCleared pages content = (content ≡ zeros) ⊎ Spells pages first_state content

-- The blocks of the log and of the pages are as they were, or whatever a crash leaves of the
-- control block is cleared. So no control block of an earlier database stands over a log or pages
-- that were begun anew.
abbrev pub IsHalfFormatted : ℕ → (ℕ → Slot) → (ℕ → Slot) → (ℕ → Slot) → (ℕ → Slot) → (ℕ → Slot)
    → Type 0
IsHalfFormatted pages old_log log old_pages page_blocks control =
    (SameBlocks old_log log × SameBlocks old_pages page_blocks)
    ⊎ ((content : List ℕ) → Contains (control 0).candidates content → IsCleared pages content)
