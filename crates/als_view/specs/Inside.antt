-- What contracts see of a reader that is inside a copy.
use Rattle.std.specs.Prelude.{ℕ, List}
use Rattle.logbook.specs.Pages.{Book}
use Rattle.als_record.specs.Commits.{Commit}
use Rattle.als_view.specs.declared.inside.Inside.{Inside}

-- which view it belongs to
abbrev pub book_at : Inside → Book
book_at i = i.front.seen.book

-- how many pages the database has
abbrev pub pages_at : Inside → ℕ
pages_at i = i.pages

-- the commits after which it sees every key, until it leaves
abbrev pub front_at : Inside → List Commit
front_at i = i.reading.part.value.list.items
