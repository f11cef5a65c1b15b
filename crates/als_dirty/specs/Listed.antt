-- The list of pages that were written since the last sync.
use Rattle.std.specs.Prelude.{◌≡◌, ℕ, ◌<◌, ◌≤◌, Bool, true, false, List, length, slice_index_or, slice_set, Contains, [], ◌∷◌, ◌++◌, ◌⊎◌}
use Rattle.std.specs.List.{sum_by}
use Rattle.als_dirty.specs.declared.dirty_page.DirtyPage.{DirtyPage}
use Rattle.als_dirty.specs.Entries.{entry_of}

-- whether a page is on the list
abbrev pub is_on : List Bool → ℕ → Bool
is_on flags page = slice_index_or flags page false

abbrev pub one_if : Bool → ℕ
one_if true = 1
one_if false = 0

-- how many pages are on the list
abbrev pub count_on : List Bool → ℕ
count_on flags = sum_by one_if flags

-- a page is put on the list, if it is not on it
abbrev pub Lists : List Bool → List Bool → List ℕ → List ℕ → ℕ → Type 0
Lists flags flags' listed listed' page = ((is_on flags page ≡ true) × (flags' ≡ flags) × (listed' ≡ listed))
    ⊎ ((is_on flags page ≡ false) × (flags' ≡ slice_set flags page true) × (listed' ≡ listed ++ page ∷ []))

-- What the table keeps between calls: a page that is not on the list has the image last written synced; the list has each page
-- that is on it once, and room for all.
pub record IsListed (pages : List DirtyPage) (flags : List Bool) (listed : List ℕ) (capacity : ℕ) : Type 0 where
  pub few : length pages ≤ 4096
  pub flagged : length flags ≡ length pages
  pub room : length pages ≤ capacity
  pub count : length listed ≡ count_on flags
  pub clean : (page : ℕ) → is_on flags page ≡ false → (entry_of pages page).synced ≡ (entry_of pages page).written
  pub all : (page : ℕ) → is_on flags page ≡ true → Contains listed page
  pub in_range : (k : ℕ) → k < length listed → slice_index_or listed k 0 < length pages
