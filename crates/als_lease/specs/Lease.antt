-- What callers see of a lease.
use Rattle.std.specs.Prelude.{ℕ, ◌<◌, ◌≤◌, ◌/◌, ◌==◌, Bool, List, length, take}
use Rattle.als_record.specs.declared.change.Change.{Change}
use Rattle.als_record.specs.Pages.{PageState}
use Rattle.als_page.specs.Changes.{AreNext, redone_all}

-- A lease: its number, the page's number and content when it was lent, the changes lent with it, and how many of them are redone.
pub record Leased : Type 0 where
  pub number : ℕ
  pub page : ℕ
  pub base : PageState
  pub batch : List Change
  pub done : ℕ

-- the page with the first changes of the batch redone
abbrev pub working_of : Leased → PageState
working_of l = redone_all l.base (take l.done l.batch)

-- a turn is 16 changes
abbrev pub turn_of : Leased → ℕ
turn_of l = l.done / 16

-- all changes of the batch are redone
abbrev pub is_finished : Leased → Bool
is_finished l = l.done == length l.batch

-- the lease with this many changes redone
abbrev pub with_done : Leased → ℕ → Leased
with_done l done = record l { done = done }

-- a new lease: the first changes that wait for a page, at most 64, none of them redone
abbrev pub lease_for : ℕ → ℕ → PageState → List Change → Leased
lease_for number page base waits = record { number = number; page = page; base = base; batch = take 64 waits; done = 0 }

-- What always holds of a lease: it has 1 to 64 changes of its page, the next ones above the page_LSN that it was lent with.
pub record IsLease (l : Leased) : Type 0 where
  pub some : 0 < length l.batch
  pub most : length l.batch ≤ 64
  pub within : l.done ≤ length l.batch
  pub next : AreNext l.page l.base.lsn l.batch
