-- The rule of the two copies: a copy that readers take is the front of the history that its token names, and each thread's view is a front of it.
use Rattle.std.specs.Prelude.{◌≡◌, ℕ, List, Option, Some, None}
use mathlib.Core.Option.{some}
use mathlib.Core.List.{IsPrefix}
use lib.ListN.{get_elem?}
use Rattle.logbook.specs.Pages.{Book}
use Rattle.als_view.specs.Entries.{AreCommits}
use Rattle.als_view.specs.declared.view_copy.ViewCopy.{ViewCopy}
use Rattle.als_view.specs.declared.rule.Known.{Known}

-- what is known is of the copy's history and database, and the copy begins with it
abbrev pub IsFrontOf : ViewCopy → Known → Type 0
IsFrontOf x k = (k.seen.book ≡ x.seen.book) × (k.pages ≡ x.pages) × IsPrefix k.seen.log x.seen.log

abbrev pub Keeps : ViewCopy → List (Option Known) → Type 0
Keeps x views = (seat : ℕ) (k : Known) → get_elem? views seat ≡ some (Some k) → IsFrontOf x k

-- the list of the copy is the front that its token names
abbrev pub IsSound : ViewCopy → Type 0
IsSound x = (x.seen.log ≡ x.list.items) × AreCommits x.list.items

abbrev pub Holds : ViewCopy → List (Option Known) → Type 0
Holds x views = IsSound x × Keeps x views

abbrev pub known_of : ViewCopy → Known
known_of y = record { seen = y.seen; pages = y.pages }

abbrev pub knowing : ViewCopy → Option Known
knowing y = Some (known_of y)

-- what is seen afterwards is the list of y, which begins with all that was seen
abbrev pub Sees : Option Known → ViewCopy → ViewCopy → Option Known → Type 0
Sees v x y w = (w ≡ knowing y) × IsSound y × ((k : Known) → v ≡ Some k → IsFrontOf y k)

-- the history that a thread knows of
abbrev pub book_in : Option Known → Option Book
book_in None = None
book_in (Some k) = Some k.seen.book

-- and how many pages its database has
abbrev pub pages_in : Option Known → Option ℕ
pages_in None = None
pages_in (Some k) = Some k.pages
