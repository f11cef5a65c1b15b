-- Ledgers of a shared engine, and what was done by them.
use Rattle.std.specs.Prelude.{◌≡◌, ℕ, ◌+◌, List, [], ◌∷◌, slice_index}
use Rattle.logbook.specs.Pages.{Book}
use Rattle.als_store.specs.Stored.{formatted_pool}
use Rattle.als_engine.specs.Machine.{Machine, formatted_machine}
use Rattle.als_engine.specs.declared.event.Event.TheVariants as event
use Rattle.als_engine.specs.Tally.{no_events, place_of}

-- new ledgers: the name of each, by its event's place in a tally, and into how many parts each is cut
pub record Named : Type 0 where
  pub names : List ℕ
  pub parts : ℕ

-- so many parts of each ledger, and what was done by them of each event
pub record Parted : Type 0 where
  pub parts : ℕ
  pub tally : List ℕ

-- these are the names of the ledgers
abbrev pub AreNamed : (ℕ → ℕ) → List ℕ → Type 0
AreNamed names given = (place : ℕ) → names place ≡ slice_index given place

-- two tallies, added place by place
abbrev pub plus : List ℕ → List ℕ → List ℕ
plus [] ys = []
plus (x ∷ xs) [] = x ∷ xs
plus (x ∷ xs) (y ∷ ys) = (x + y) ∷ plus xs ys

-- shares by which nothing was done
abbrev pub AreNew : List (List ℕ) → Type 0
AreNew [] = Unit {0}
AreNew (xs ∷ xss) = (xs ≡ no_events) × AreNew xss

-- no event of a takeover was made: no seal, and no undo, end or decision
pub record CountsNoTakeover (tally : List ℕ) : Type 0 where
  pub seal : slice_index tally (place_of event.Seal) ≡ 0
  pub undo_one : slice_index tally (place_of event.UndoOne) ≡ 0
  pub finish : slice_index tally (place_of event.Finish) ≡ 0
  pub resolve : slice_index tally (place_of event.Resolve) ≡ 0

-- a machine for what is said of a machine that nobody sees
unfoldable pub nobody_sees : Machine
nobody_sees = formatted_machine (record { pages = 0; frames = 0; pending = 0; readers = 0 }) (formatted_pool 0 0 0 0 0) 0 0 0

-- a view that no reader has
abbrev pub no_book : Book
no_book = record { number = 0; log_name = 0; cells_name = 0 }
