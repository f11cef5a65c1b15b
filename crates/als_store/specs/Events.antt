-- What each event makes of a store: each of them makes one write or one sync of a device at most.
use Rattle.std.specs.Prelude.{◌≡◌, ◌⊎◌, ℕ, ◌+◌, ◌<◌, true, false, [], ◌∷◌, ◌++◌}
use Rattle.als_record.specs.declared.lsn.Lsn.{Lsn}
use Rattle.als_record.specs.LogText.{end_of}
use Rattle.als_log.specs.Local.{next_written, whole_end}
use Rattle.als_log.specs.Reading.{HasRowsAt}
use Rattle.als_ckpt.specs.declared.control_state.ControlState.{ControlState}
use Rattle.als_ckpt.specs.Regions.{blocks_synced}
use Rattle.als_pool.specs.Pooled.{view_of}
use Rattle.als_lease.specs.Lease.{Leased}
use Rattle.als_pool.specs.Refusals.{is_lent, has_waiting, are_spent, is_full, is_due, is_behind}
use Rattle.als_pool.specs.Outcomes.{Lends, IsOutstanding, HasAll, Gives, Recalls, Flushes}
use Rattle.als_pool.specs.Outcomes.{FlushFails, SyncsPages}
use Rattle.als_pool.specs.Outcomes.{SyncPagesFails, ReadRefused}
use Rattle.als_frames.specs.Frames.{slot_of}
use Rattle.als_frames.specs.Outcomes.{IsBad, IsBadBelow}
use Rattle.als_frames.specs.declared.fault.Fault.TheVariants.{Device as DiskFailed}
use Rattle.als_store.specs.declared.fault.Fault.{Fault}
use Rattle.als_store.specs.declared.fault.Fault.TheVariants as fault
use Rattle.als_store.specs.Stored.{Stored, newest, acknowledged}

-- a device failed in the one write or sync of the event: nothing else changed
pub record Breaks (old new : Stored) : Type 0 where
  pub failed : old.failures < new.failures
  pub after : new ≡ record old {
    broken = true;
    failures = new.failures;
    attempts = old.attempts + 1;
  }

-- a device failed in a read: nothing else changed
pub record FailsToRead (old new : Stored) : Type 0 where
  pub failed : old.failures < new.failures
  pub after : new ≡ record old { failures = new.failures }

-- no record was read at an LSN: memory was wanted for the rows of an end_chkpt, or the device
-- failed
abbrev pub NotRead : Stored → Lsn → Fault → Stored → Type 0
NotRead old lsn f new =
    ((f ≡ fault.Memory) × HasRowsAt old.log lsn.0 × (new ≡ old))
    ⊎ ((f ≡ fault.Device) × FailsToRead old new)

-- the log has bytes that are not written
abbrev pub HasUnwritten : Stored → Type 0
HasUnwritten s = s.written < end_of s.log

-- the first block with unwritten bytes is written
pub record WritesLog (old new : Stored) : Type 0 where
  pub unwritten : HasUnwritten old
  pub after : new ≡ record old {
    written = next_written old.log old.written;
    attempts = old.attempts + 1;
  }

-- a block of the log was not written: each is, or the device failed
abbrev pub NotWritten : Stored → Fault → Stored → Type 0
NotWritten old f new =
    ((f ≡ fault.NothingToDo) × (HasUnwritten old → ⊥) × (new ≡ old))
    ⊎ ((f ≡ fault.Device) × HasUnwritten old × Breaks old new)

-- the log is synced: up to its last record that is wholly written
pub record SyncsLog (old new : Stored) : Type 0 where
  pub after : new ≡ record old {
    synced = whole_end old.log old.written;
    attempts = old.attempts + 1;
  }

-- the synced end is above the last mark written
abbrev pub HasUnmarked : Stored → Type 0
HasUnmarked s = (newest s).mark.0 < s.synced

-- the last control state, with the synced end as its mark
abbrev pub marked : Stored → ControlState
marked s = record (newest s) { mark = record { 0 = s.synced } }

-- the control block is written with it
pub record WritesMark (old new : Stored) : Type 0 where
  pub unmarked : HasUnmarked old
  pub after : new ≡ record old { since = old.since ++ marked old ∷ []; attempts = old.attempts + 1 }

-- that write failed: a crash may leave it all the same
pub record BreaksMark (old new : Stored) : Type 0 where
  pub unmarked : HasUnmarked old
  pub failed : old.failures < new.failures
  pub after : new ≡ record old {
    since = old.since ++ marked old ∷ [];
    broken = true;
    failures = new.failures;
    attempts = old.attempts + 1;
  }

-- the mark was not written: the last one is the synced end already, or the device failed
abbrev pub NotMarked : Stored → Fault → Stored → Type 0
NotMarked old f new =
    ((f ≡ fault.NothingToDo) × (HasUnmarked old → ⊥) × (new ≡ old))
    ⊎ ((f ≡ fault.Device) × BreaksMark old new)

-- the control device is synced: the last control state alone stays, and its mark is answered; so
-- are the blocks written of a checkpoint
pub record SyncsControl (old : Stored) (lsn : Lsn) (new : Stored) : Type 0 where
  pub answer : lsn ≡ (newest old).mark
  pub after : new ≡ record old {
    control = newest old;
    since = [];
    begun = blocks_synced old.begun;
    attempts = old.attempts + 1;
  }

-- ---- leases

-- a page is not lent, changes wait for it, a lease number is left, and it has a frame or can get one
pub record CanLend (s : Stored) (page : ℕ) : Type 0 where
  pub free : is_lent s.pool page ≡ false
  pub waiting : has_waiting s.pool page ≡ true
  pub numbered : are_spent s.pool ≡ false
  pub room : is_full s.pool page ≡ false

-- A page is lent, with the first changes that wait for it, at most 64; it was read into a frame if
-- it had none. Its lease is out from now on.
pub record LendsPage (old : Stored) (page : ℕ) (lease : Leased) (new : Stored) : Type 0 where
  pub can : CanLend old page
  pub lends : Lends old.pool new.pool page (end_of old.log) lease
  pub out : IsOutstanding new.pool lease
  pub after : new ≡ record old { pool = new.pool }

-- a page was read into a frame, and all that waited for it is in it
pub record FindsAll (old : Stored) (page : ℕ) (new : Stored) : Type 0 where
  pub finds : HasAll old.pool new.pool page (end_of old.log)
  pub after : new ≡ record old { pool = new.pool }

-- a page has no frame, and the pages' device failed in a read, which is counted: nothing else changed
pub record FailsToFetch (old : Stored) (page : ℕ) (new : Stored) : Type 0 where
  pub absent : (view_of old.pool page).resident ≡ false
  pub failed : old.failures < new.failures
  pub counted : new.pool ≡ record old.pool {
    frames = record old.pool.frames { failures = new.pool.frames.failures };
  }
  pub after : new ≡ record old { pool = new.pool; failures = new.failures }

-- a page has no frame, and a read may give what is no block of it with a page_LSN below the log's
-- end: nothing changed
pub record IsNoImage (old : Stored) (page p : ℕ) (new : Stored) : Type 0 where
  pub number : p ≡ page
  pub absent : (view_of old.pool page).resident ≡ false
  pub bad : IsBadBelow (slot_of old.pool.frames page) page (end_of old.log)
  pub after : new ≡ old

-- by the fault, what reading a page came to: it has all that waited; the device failed; its block
-- has no image of it; or memory was wanted, for its frame or for its lease
abbrev pub ReadsInVain : Stored → ℕ → Fault → Stored → Type 0
ReadsInVain old page fault.NothingToDo new = FindsAll old page new
ReadsInVain old page fault.Device new = FailsToFetch old page new
ReadsInVain old page (fault.BadPage p) new = IsNoImage old page p new
ReadsInVain old page fault.Memory new = new ≡ old
ReadsInVain old page (fault.Invalid cause) new = ⊥
ReadsInVain old page fault.LogBehind new = ⊥
ReadsInVain old page fault.CkptBusy new = ⊥
ReadsInVain old page fault.PoolFull new = ⊥
ReadsInVain old page fault.LogFull new = ⊥
ReadsInVain old page fault.PageLent new = ⊥
ReadsInVain old page fault.NumbersSpent new = ⊥

-- A page that can be lent was not: it has all that waited, or it could not be read, or memory was
-- wanted.
pub record IsNotLent (old : Stored) (page : ℕ) (answer : Fault) (new : Stored) : Type 0 where
  pub can : CanLend old page
  pub reads : ReadsInVain old page answer new

-- No lease is out for the page, and nothing changed: no change waits for it; or else the numbers are
-- spent; or else it has no frame and none can be had.
abbrev pub IsUnlendable : Stored → ℕ → Fault → Type 0
IsUnlendable s page answer =
    ((has_waiting s.pool page ≡ false) × (answer ≡ fault.NothingToDo))
    ⊎ (((has_waiting s.pool page ≡ true) × (are_spent s.pool ≡ true) × (answer ≡ fault.NumbersSpent))
    ⊎ ((has_waiting s.pool page ≡ true) × (are_spent s.pool ≡ false) × (is_full s.pool page ≡ true)
    × (answer ≡ fault.PoolFull)))

-- A page was not lent: it is lent already; or it can't be, which is found before it is read; or it
-- was read in vain.
abbrev pub NotLent : Stored → ℕ → Fault → Stored → Type 0
NotLent old page answer new =
    ((is_lent old.pool page ≡ true) × (answer ≡ fault.PageLent) × (new ≡ old))
    ⊎ (((is_lent old.pool page ≡ false) × IsUnlendable old page answer × (new ≡ old))
    ⊎ IsNotLent old page answer new)

-- An outstanding lease is given back: its page is the lease's working image, and what the lease has
-- done waits no more.
pub record GivesBack (old : Stored) (lease : Leased) (new : Stored) : Type 0 where
  pub gives : Gives old.pool new.pool lease
  pub after : new ≡ record old { pool = new.pool }

-- A lease is recalled: its page is lent no more, and all that waited for it still waits.
pub record RecallsPage (old : Stored) (page : ℕ) (new : Stored) : Type 0 where
  pub lent : is_lent old.pool page ≡ true
  pub recalls : Recalls old.pool new.pool page
  pub after : new ≡ record old { pool = new.pool }

-- no lease is recalled: none is out for the page
abbrev pub NotRecalled : Stored → ℕ → Fault → Stored → Type 0
NotRecalled old page answer new =
    (is_lent old.pool page ≡ false) × (answer ≡ fault.NothingToDo) × (new ≡ old)

-- ---- images

-- a page is not lent, is resident and not written as it is now, and the log is acknowledged past its
-- page_LSN
pub record CanFlush (s : Stored) (page : ℕ) : Type 0 where
  pub free : is_lent s.pool page ≡ false
  pub due : is_due (view_of s.pool page) ≡ true
  pub logged : is_behind (view_of s.pool page) (acknowledged s) ≡ false

-- a page is written to its block, as the log is acknowledged past its page_LSN
pub record FlushesPage (old : Stored) (page : ℕ) (new : Stored) : Type 0 where
  pub can : CanFlush old page
  pub flushes : Flushes old.pool new.pool page old.control.mark
  pub after : new ≡ record old { pool = new.pool; attempts = old.attempts + 1 }

-- that write failed
pub record BreaksFlush (old : Stored) (page : ℕ) (new : Stored) : Type 0 where
  pub can : CanFlush old page
  pub fails : FlushFails old.pool new.pool page old.control.mark
  pub failed : old.failures < new.failures
  pub after : new ≡ record old {
    pool = new.pool;
    broken = true;
    failures = new.failures;
    attempts = old.attempts + 1;
  }

-- a page was not written: it is lent; or else there is nothing to write, or the log is not
-- acknowledged past its page_LSN, or the device failed
abbrev pub NotFlushed : Stored → ℕ → Fault → Stored → Type 0
NotFlushed old page fault.PageLent new = (is_lent old.pool page ≡ true) × (new ≡ old)
NotFlushed old page fault.NothingToDo new =
    (is_lent old.pool page ≡ false) × (is_due (view_of old.pool page) ≡ false) × (new ≡ old)
NotFlushed old page fault.LogBehind new =
    (is_lent old.pool page ≡ false) × (is_due (view_of old.pool page) ≡ true)
    × (is_behind (view_of old.pool page) (acknowledged old) ≡ true) × (new ≡ old)
NotFlushed old page fault.Device new = BreaksFlush old page new
NotFlushed old page (fault.Invalid cause) new = ⊥
NotFlushed old page fault.LogFull new = ⊥
NotFlushed old page fault.CkptBusy new = ⊥
NotFlushed old page fault.PoolFull new = ⊥
NotFlushed old page fault.Memory new = ⊥
NotFlushed old page (fault.BadPage p) new = ⊥
NotFlushed old page fault.NumbersSpent new = ⊥

-- the pages' device is synced, and the rows move
pub record SyncsDevice (old new : Stored) : Type 0 where
  pub syncs : SyncsPages old.pool new.pool
  pub after : new ≡ record old { pool = new.pool; attempts = old.attempts + 1 }

-- that sync failed
pub record BreaksSync (old new : Stored) : Type 0 where
  pub fails : SyncPagesFails old.pool new.pool
  pub failed : old.failures < new.failures
  pub after : new ≡ record old {
    pool = new.pool;
    broken = true;
    failures = new.failures;
    attempts = old.attempts + 1;
  }

-- a page that has no frame was read, and a read may give what is no block of the page: nothing
-- changed
pub record IsNoPage (old : Stored) (page p : ℕ) (new : Stored) : Type 0 where
  pub number : p ≡ page
  pub bad : IsBad (slot_of old.pool.frames page) page
  pub absent : (view_of old.pool page).resident ≡ false
  pub after : new ≡ old

-- a page that has no frame could not be read: nothing else changed
pub record FailsToShow (old : Stored) (page : ℕ) (new : Stored) : Type 0 where
  pub refused : ReadRefused DiskFailed old.pool new.pool page
  pub failed : old.failures < new.failures
  pub after : new ≡ record old { pool = new.pool; failures = new.failures }

-- by the fault, why a page was not shown
abbrev pub NotShown : Stored → ℕ → Fault → Stored → Type 0
NotShown old page fault.Device new = FailsToShow old page new
NotShown old page (fault.BadPage p) new = IsNoPage old page p new
NotShown old page fault.NothingToDo new = ⊥
NotShown old page fault.Memory new = ⊥
NotShown old page (fault.Invalid cause) new = ⊥
NotShown old page fault.LogBehind new = ⊥
NotShown old page fault.CkptBusy new = ⊥
NotShown old page fault.PoolFull new = ⊥
NotShown old page fault.LogFull new = ⊥
NotShown old page fault.PageLent new = ⊥
NotShown old page fault.NumbersSpent new = ⊥
