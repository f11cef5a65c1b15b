-- Changes of one page, and what their redo makes of it.
use Rattle.std.specs.Prelude.{◌≡◌, ℕ, ◌<◌, ◌≤◌, List, [], ◌∷◌}
use Rattle.std.specs.List.{fold}
use Rattle.als_record.specs.declared.change.Change.{Change}
use Rattle.als_record.specs.Pages.{PageState, redone}

-- changes of a page in rising order, each above an LSN: redo can take them one after another
abbrev pub AreNext : ℕ → ℕ → List Change → Type 0
AreNext page lsn [] = Unit {0}
AreNext page lsn (change ∷ rest) = (change.key.page ≡ page) × (change.key.slot ≤ 14) × (16 ≤ change.lsn.0) × (lsn < change.lsn.0) × AreNext page change.lsn.0 rest

-- a page after the redo of these changes, one after another
abbrev pub redone_all : PageState → List Change → PageState
redone_all page changes = fold redone page changes
