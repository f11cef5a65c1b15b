-- What is known of the pages of a database once records of its log are read.
use Rattle.std.specs.Prelude.{◌≡◌, ℕ, ◌≤◌, ◌<◌, false, List, [], ◌∷◌, ◌++◌, length, Some, slice_get}
use Rattle.std.specs.List.{AllByRecursion}
use Rattle.als_record.specs.declared.change.Change.{Change}
use Rattle.als_record.specs.declared.lsn.Lsn.{Lsn}
use Rattle.als_record.specs.declared.record.Record.{Record}
use Rattle.als_record.specs.LogText.{end_of, IsLog}
use Rattle.als_record.specs.Pages.{PageState, empty_page, page_at, changes_above}
use Rattle.als_page.specs.Block.{block_of}
use Rattle.als_frames.specs.Images.{spelled_lsn}
use Rattle.als_pool.specs.Restart.{IsImageFrom}
use Rattle.als_pages_check.specs.declared.page_check.PageCheck.{PageCheck}

-- what the log makes of the page, as far as it was read
abbrev pub repeated : PageCheck → PageState
repeated c = record { lsn = c.last.0; slots = c.slots }

-- each of some changes stands at an LSN or above
abbrev pub AllFrom : ℕ → List Change → Type 0
AllFrom from changes = AllByRecursion (λ d. from ≤ d.lsn.0) changes

-- What is known of a page: history repeated up to the page_LSN that its block spells, and whether a change above that LSN stands below
-- where a restart redoes the page's changes.
pub record IsChecked (log : List Record) (page : ℕ) (c : PageCheck) : Type 0 where
  pub spelled : c.page_lsn.0 ≡ spelled_lsn c.block
  pub none : c.lacks ≡ false → AllFrom c.redone_from.0 (changes_above log page c.page_lsn.0)
  pub some : AllFrom c.redone_from.0 (changes_above log page c.page_lsn.0) → c.lacks ≡ false
  pub is_repeated : (pages : ℕ) → IsLog pages log → repeated c ≡ page_at log page c.page_lsn.0

-- so it is with each page
abbrev pub AreChecked : List PageCheck → List Record → Type 0
AreChecked pages log = (page : ℕ) (c : PageCheck) → slice_get pages page ≡ Some c → IsChecked log page c

-- A page came behind some: its block, from where on a restart redoes its changes, and nothing redone.
pub record IsAdded (old : List PageCheck) (block : List ℕ) (from : Lsn) (new : List PageCheck) : Type 0 where
  pub added : PageCheck
  pub is : new ≡ old ++ added ∷ []
  pub has : added.block ≡ block
  pub starts : added.redone_from ≡ from
  pub spelled : added.page_lsn.0 ≡ spelled_lsn added.block
  pub none : added.lacks ≡ false
  pub empty : repeated added ≡ empty_page

-- its block is that of history repeated, and it lacks no change that no restart redoes
abbrev pub HasAgreed : ℕ → PageCheck → Type 0
HasAgreed page c = (block_of page (repeated c) ≡ c.block) × (c.lacks ≡ false)

-- a page's block is an image of the page in the log, which lacks no change from before where a restart redoes
abbrev pub IsSound : List Record → ℕ → PageCheck → Type 0
IsSound log page c = IsImageFrom log page (end_of log) c.redone_from c.block

-- so it is with each page
abbrev pub AreSound : List Record → List PageCheck → Type 0
AreSound log pages = (page : ℕ) (c : PageCheck) → slice_get pages page ≡ Some c → IsSound log page c

-- it is so with each page before this one, and not with this one
abbrev pub IsFirstUnsound : List Record → List PageCheck → ℕ → Type 0
IsFirstUnsound log pages page =
    ((k : ℕ) (c : PageCheck) → k < page → slice_get pages k ≡ Some c → IsSound log k c)
    × ((c : PageCheck) → slice_get pages page ≡ Some c → IsSound log page c → ⊥)
    × (page < length pages)
