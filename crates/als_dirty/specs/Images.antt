-- What the dirty page table knows of the log.
use Rattle.std.specs.Prelude.{◌≡◌, ℕ, ◌<◌, ◌≤◌, List, [], ◌∷◌, length, Option, Some, None}
use Rattle.als_record.specs.declared.lsn.Lsn.{Lsn}
use Rattle.als_record.specs.declared.change.Change.{Change}
use Rattle.als_record.specs.declared.record.Record.{Record}
use Rattle.als_record.specs.LogText.{end_of}
use Rattle.als_record.specs.Pages.{changes_above}
use Rattle.als_dirty.specs.declared.dirty_page.DirtyPage.{DirtyPage}
use Rattle.als_dirty.specs.Entries.{entry_of}

-- the LSN of the first of some changes
abbrev pub first_lsn : List Change → Option Lsn
first_lsn [] = None
first_lsn (c ∷ rest) = Some c.lsn

-- An image of a page with a page_LSN that the log has reached, and the first record of the log that it lacks.
pub record IsFirstLacked (log : List Record) (page lsn : ℕ) (next : Option Lsn) : Type 0 where
  pub reached : lsn < end_of log
  pub first : next ≡ first_lsn (changes_above log page lsn)

-- What the table keeps of a page of which the images last synced and last written have these page_LSNs: the first records of
-- the log that they lack. The one last written is not older than the one last synced.
pub record IsDirtyPageOf (log : List Record) (page synced written : ℕ) (e : DirtyPage) : Type 0 where
  pub synced_first : IsFirstLacked log page synced e.synced
  pub written_first : IsFirstLacked log page written e.written
  pub order : synced ≤ written

-- so it is with each page
abbrev pub AreDirtyPagesOf : List Record → (ℕ → ℕ) → (ℕ → ℕ) → List DirtyPage → Type 0
AreDirtyPagesOf log synced written pages = (page : ℕ) → page < length pages → IsDirtyPageOf log page (synced page) (written page) (entry_of pages page)
