-- What the records of a log make of a page: history repeated, as ARIES redo does.
use Rattle.std.specs.Prelude.{◌≡◌, ℕ, ◌<◌, ◌≤◌, ◌^◌, List, length, Option, Some, None, nat_lt, nat_le, ◌==◌, slice_set, replicate, filter}
use Rattle.std.specs.List.{fold, filter_map, AllByRecursion}
use Rattle.als_record.specs.declared.change.Change.{Change}
use Rattle.als_record.specs.declared.record.Body.{Body}
use Rattle.als_record.specs.declared.record.Body.TheVariants.{Update, Compensation, Commit, Rollback, End, BeginCheckpoint, EndCheckpoint, Prepare}
use Rattle.als_record.specs.declared.record.Record.{Record}
use Rattle.als_record.specs.Spelling.{Image, IsKey, IsImage}

-- what redo does for a record: an update and a compensation write their after image, the others nothing
abbrev pub change_in : Record → Body → Option Change
change_in r (Update key before after) = Some (record { lsn = r.lsn; key = key; after = after })
change_in r (Compensation undo_next key after) = Some (record { lsn = r.lsn; key = key; after = after })
change_in r Commit = None
change_in r Rollback = None
change_in r End = None
change_in r BeginCheckpoint = None
change_in r (EndCheckpoint transactions pages) = None
change_in r Prepare = None

abbrev pub change_of : Record → Option Change
change_of r = change_in r r.body

-- a page's content: its page_LSN (0: none), and the images of its 15 slots
pub record PageState : Type 0 where
  pub lsn : ℕ
  pub slots : List Image

abbrev pub empty_page : PageState
empty_page = record { lsn = 0; slots = replicate 15 None }

-- a page after one change of it
abbrev pub redone : PageState → Change → PageState
redone page change = record { lsn = change.lsn.0; slots = slice_set page.slots change.key.slot change.after }

-- the changes of a page that a log holds, in order
unfoldable pub changes_on : ℕ → List Record → List Change
changes_on page log = filter (λ change. change.key.page == page) (filter_map change_of log)

-- the page with each change up to an LSN, and the changes above it
unfoldable pub page_at : List Record → ℕ → ℕ → PageState
page_at log page lsn = fold redone empty_page (filter (λ change. nat_le change.lsn.0 lsn) (changes_on page log))

unfoldable pub changes_above : List Record → ℕ → ℕ → List Change
changes_above log page lsn = filter (λ change. nat_lt lsn change.lsn.0) (changes_on page log)

-- the LSN of the last of some changes, or else the one given
abbrev pub lsn_after : ℕ → List Change → ℕ
lsn_after lsn changes = fold (λ _ change. change.lsn.0) lsn changes

-- a change of a page above an LSN, by a record of a log with this end
pub record IsChangeAbove (page lsn end : ℕ) (change : Change) : Type 0 where
  pub of_page : change.key.page ≡ page
  pub above : lsn < change.lsn.0
  pub first : 16 ≤ change.lsn.0
  pub last : change.lsn.0 < end

-- a change of a database with this many pages: its LSN fits, its key is in range, and its image has at most 31 bytes
pub record IsFittingChange (pages : ℕ) (change : Change) : Type 0 where
  pub width : change.lsn.0 < 2 ^ 64
  pub key : IsKey pages change.key
  pub after : IsImage change.after

-- what a page can be: 15 slots of images, and a page_LSN at which a record can stand, if it is not the empty page
pub record IsPageState (page : PageState) : Type 0 where
  pub width : page.lsn < 2 ^ 64
  pub count : length page.slots ≡ 15
  pub images : AllByRecursion IsImage page.slots
  pub nothing : page.lsn < 16 → page ≡ empty_page
