-- What a lend, a give, a write and a sync make of the pages, in short: no frame is named.
use Rattle.std.specs.Prelude.{◌≡◌, ◌≢◌, ℕ, ◌<◌, true, List, length, take, None}
use Rattle.als_record.specs.declared.record.Record.{Record}
use Rattle.als_record.specs.Pages.{page_at, changes_above}
use Rattle.als_lease.specs.Lease.{Leased, working_of}
use Rattle.als_dirty.specs.Images.{first_lsn}
use Rattle.als_pool.specs.Queues.{pending_of}
use Rattle.als_pool.specs.Pooled.{Pooled, PageView, view_of, unread_of}

-- the row of a page is the first record of the log above the image last synced
abbrev pub IsRowOf : List Record → ℕ → PageView → Type 0
IsRowOf log page v = v.row ≡ first_lsn (changes_above log page v.synced)

-- A lend of a page: it is resident, and its row is exact. The lease's base is the page as the log has
-- it at its page_LSN; its batch are the first changes of the log above that, at most 64; all of
-- these wait until it is given back, and it has done none of them. No page's page_LSN changes, and
-- no image.
pub record ShowsLend (log : List Record) (old : Pooled) (page : ℕ) (lease : Leased)
    (new : Pooled) : Type 0 where
  pub resident : (view_of new page).resident ≡ true
  pub row : IsRowOf log page (view_of new page)
  pub number : lease.page ≡ page
  pub base : lease.base ≡ page_at log page lease.base.lsn
  pub at : (view_of new page).now ≡ lease.base.lsn
  pub rest : pending_of new.waits page ≡ changes_above log page lease.base.lsn
  pub batch : lease.batch ≡ take 64 (changes_above log page lease.base.lsn)
  pub fresh : lease.done ≡ 0
  pub now : (p : ℕ) → p < length old.waits → (view_of new p).now ≡ (view_of old p).now
  pub synced : (p : ℕ) → (view_of new p).synced ≡ (view_of old p).synced

-- A lease is given back: its page is the working image, what waits is what the log has above that,
-- and its row is exact. No other page's page_LSN changes, and no image.
pub record ShowsGive (log : List Record) (old : Pooled) (lease : Leased) (new : Pooled) : Type 0 where
  pub resident : (view_of new lease.page).resident ≡ true
  pub row : IsRowOf log lease.page (view_of new lease.page)
  pub now : (view_of new lease.page).now ≡ (working_of lease).lsn
  pub content : working_of lease ≡ page_at log lease.page (working_of lease).lsn
  pub rest : pending_of new.waits lease.page ≡ changes_above log lease.page (working_of lease).lsn
  pub others : (other : ℕ) → other < length old.waits → other ≢ lease.page
      → (view_of new other).now ≡ (view_of old other).now
  pub synced : (p : ℕ) → (view_of new p).synced ≡ (view_of old p).synced

-- A write of a page: the image last written is the page as it is now. No page's page_LSN changes,
-- and nothing of any other page.
pub record ShowsWrite (old new : Pooled) (page : ℕ) : Type 0 where
  pub written : (view_of new page).written ≡ (view_of new page).now
  pub now : (p : ℕ) → p < length old.waits → (view_of new p).now ≡ (view_of old p).now
  pub others : (other : ℕ) → other ≢ page → view_of new other ≡ view_of old other

-- A sync of the pages: of each page the image last synced is the one that was last written, and the
-- row of one that was read is exact. No page's page_LSN changes, and each stays resident or not.
pub record ShowsSync (log : List Record) (old new : Pooled) : Type 0 where
  pub synced : (page : ℕ) → page < length old.waits
      → (view_of new page).synced ≡ (view_of old page).written
  pub row : (page : ℕ) → page < length old.waits → unread_of new.unread page ≡ None
      → IsRowOf log page (view_of new page)
  pub now : (page : ℕ) → page < length old.waits → (view_of new page).now ≡ (view_of old page).now
  pub resident : (page : ℕ) → (view_of new page).resident ≡ (view_of old page).resident
