-- The rows of the dirty page table: PageID and RecLSN.
use Rattle.std.specs.Prelude.{◌≡◌, ℕ, ◌<◌, ◌≤◌, List, Option, Some, None}
use Rattle.std.specs.List.{enumerate_from, filter_map}
use Rattle.std.specs.Option.{option_map}
use Rattle.als_record.specs.declared.lsn.Lsn.{Lsn}
use Rattle.als_record.specs.declared.rows.LoggedPage.{LoggedPage}
use Rattle.als_dirty.specs.declared.dirty_page.DirtyPage.{DirtyPage}
use Rattle.als_dirty.specs.Entries.{entry_of}

-- a page's RecLSN: the first record that its synced image lacks; it has no row where that lacks none
abbrev pub rec_lsn_of : List DirtyPage → ℕ → Option Lsn
rec_lsn_of pages page = (entry_of pages page).synced

-- the row of a page with a number, if it has one
abbrev pub row_of : ℕ × DirtyPage → Option LoggedPage
row_of numbered = option_map (λ lsn. record { page = numbered.0; rec_lsn = lsn }) numbered.1.synced

-- all rows, in rising page
abbrev pub rows_of : List DirtyPage → List LoggedPage
rows_of pages = filter_map row_of (enumerate_from 0 pages)

-- the first row from a page on
abbrev pub IsNextRow : List DirtyPage → ℕ → Option LoggedPage → Type 0
IsNextRow pages from None = (page : ℕ) → from ≤ page → rec_lsn_of pages page ≡ None
IsNextRow pages from (Some row) = (from ≤ row.page) × (rec_lsn_of pages row.page ≡ Some row.rec_lsn)
    × ((page : ℕ) → from ≤ page → page < row.page → rec_lsn_of pages page ≡ None)
