-- What an engine shows to readers: the committed transactions that are published.
use Rattle.std.specs.Prelude.{◌≡◌, ℕ, ◌≤◌, true, not, is_some, All, List, Option, Some, None}
use Rattle.als_record.specs.declared.record.Record.{Record}
use Rattle.als_record.specs.LogText.{end_of}
use Rattle.als_record.specs.Commits.{commits_of}
use Rattle.als_receiver.specs.Reception.{Reception}
use Rattle.als_commits.specs.Counting.{ended_count}
use Rattle.logbook.specs.Pages.{Book}
use Rattle.als_view.specs.declared.front.Front.{Front}
use Rattle.als_view.specs.declared.reader.Reader.{Reader}
use Rattle.als_view.specs.Views.{book_of, pages_of}
use Rattle.als_view.specs.Showing.{View, IsShowing, published_of}
use Rattle.als_store.specs.Stored.{Stored, acknowledged}
use Rattle.als_engine.specs.declared.fault.Fault.{Fault}
use Rattle.als_engine.specs.TakingIn.{IsReady}

-- how many commits the list has, 0 where there is none
abbrev pub count_in : Option ℕ → ℕ
count_in None = 0
count_in (Some count) = count

-- A view of one log becomes one of another log, and the published commits stay.
pub record ViewGoesOn (log : List Record) (view : View) (next_log : List Record)
    (next : View) : Type 0 where
  pub shows : (offset : ℕ) → IsShowing log offset view → IsShowing next_log offset next
  pub published : published_of next ≡ published_of view
  pub pages : next.pages ≡ view.pages
  pub book : next.book ≡ view.book

-- What readers see is of the held log, and all of it is acknowledged. There is a list of published
-- commits unless the engine is recovering, and until then all of the log is acknowledged.
pub record IsSeen (held : Stored) (view : View) : Type 0 where
  pub shows : IsShowing held.log (acknowledged held) view
  pub pages : view.pages ≡ held.pages
  pub listed : is_some (published_of view) ≡ not held.recovering
  pub stable : held.recovering ≡ true → end_of held.log ≤ acknowledged held

-- an engine between two events
pub record IsServing (held : Stored) (receiver : Reception) (refused : Option Fault)
    (view : View) : Type 0 where
  pub ready : IsReady held receiver refused
  pub seen : IsSeen held view

-- how many commits of the held log have a record that ends at or below what is acknowledged
abbrev pub ended_in : Stored → ℕ
ended_in held = ended_count (acknowledged held) (commits_of held.log)

-- a reader of this view, of a database with so many pages
abbrev pub IsReader : Book → ℕ → Reader → Type 0
IsReader book pages reader = (book_of reader ≡ book) × (pages_of reader ≡ pages)

-- and so is each of them
abbrev pub AreReaders : Book → ℕ → List Reader → Type 0
AreReaders book pages readers = All (IsReader book pages) readers

-- the view whose readers may learn what was told
abbrev pub book_told : Front → Book
book_told told = told.seen.book
