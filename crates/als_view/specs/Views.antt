-- What contracts see of a reader and of the publisher.
use Rattle.std.specs.Prelude.{◌≡◌, ℕ, List, [], Option, Some, None, if◌then◌else◌}
use Rattle.logbook.specs.Pages.{Book}
use Rattle.als_record.specs.Commits.{Commit}
use Rattle.als_view.specs.Fronts.{front_of}
use Rattle.als_view.specs.declared.reader.Reader.{Reader}
use Rattle.als_view.specs.declared.publisher.Publisher.{Publisher}

-- which view it belongs to
abbrev pub book_of : Reader → Book
book_of r = r.front.seen.book

-- how many pages the database has
abbrev pub pages_of : Reader → ℕ
pages_of r = r.pages

-- all that the reader saw or was told
abbrev pub known_to : Reader → Option (List Commit)
known_to r = front_of r.front

abbrev pub book_by : Publisher → Book
book_by p = p.front.seen.book

abbrev pub pages_by : Publisher → ℕ
pages_by p = p.writer.desk.shown.value.pages

-- the commits that were published and those that are queued
abbrev pub all_by : Publisher → List Commit
all_by p = p.front.seen.log

-- the published list, none where it is not open
abbrev pub published_by : Publisher → Option (List Commit)
published_by p = if p.writer.desk.shown.value.listed then Some p.writer.desk.shown.value.list.items else None

-- the commits of a list, none where there is no list
abbrev pub listed_in : Option (List Commit) → List Commit
listed_in None = []
listed_in (Some commits) = commits

-- a publisher before and after a call: it is of the same view, of the same database
abbrev pub IsSameView : Publisher → Publisher → Type 0
IsSameView old new = (book_by new ≡ book_by old) × (pages_by new ≡ pages_by old)

-- and a reader
abbrev pub IsSameReader : Reader → Reader → Type 0
IsSameReader old new = (book_of new ≡ book_of old) × (pages_of new ≡ pages_of old)

-- the reader is one of the publisher's view, and knows the published list
abbrev pub IsNewReader : Publisher → Reader → Type 0
IsNewReader p r = (book_of r ≡ book_by p) × (pages_of r ≡ pages_by p) × (known_to r ≡ published_by p)
