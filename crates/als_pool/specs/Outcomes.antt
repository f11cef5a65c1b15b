-- What each call does, and when it is refused.
use Rattle.std.specs.Prelude.{◌≡◌, ◌≢◌, ◌⊎◌, ℕ, ◌<◌, ◌≤◌, ◌+◌, ◌^◌, true, false, [], ◌∷◌, ◌++◌, length, take, drop, Some, None, MatchOption, map, slice_set}
use Rattle.als_record.specs.declared.change.Change.{Change}
use Rattle.als_record.specs.declared.lsn.Lsn.{Lsn}
use Rattle.als_record.specs.Pages.{PageState}
use Rattle.als_frames.specs.Frames.{Framed, frame_of, slot_of}
use Rattle.als_frames.specs.Outcomes.{IsFetched, RefusesFetch, PutsIn, IsFound, RefusesReading, IsDue, NothingIsDue, Writes, WriteFails, Syncs, SyncFails}
use Rattle.als_frames.specs.Leases.{Lends as FrameLends, TakesBack as FrameTakesBack, Recalls as FrameRecalls}
use Rattle.als_frames.specs.declared.fault.Fault.{Fault as FramesFault}
use Rattle.als_frames.specs.declared.fault.Fault.TheVariants.{PoolFull as FullFrames, Device as DiskFailed, BadPage as NoPage}
use Rattle.als_dirty.specs.Entries.{entry_of, after_record, after_write, after_sync, after_load}
use Rattle.als_dirty.specs.Images.{first_lsn}
use Rattle.als_lease.specs.Lease.{Leased, IsLease, working_of, lease_for}
use Rattle.als_lease.specs.Numbers.{next_number}
use Rattle.als_pool.specs.declared.fault.Fault.{Fault}
use Rattle.als_pool.specs.declared.fault.Fault.TheVariants.{LogBehind, PoolFull, PageLent, NothingToDo, Device, Memory, BadPage, NumbersSpent}
use Rattle.als_pool.specs.Queues.{pending_of, has_place, total_waiting, above}
use Rattle.als_pool.specs.Pooled.{Pooled, Room, Held, WaitsInOrder}
use Rattle.als_pool.specs.Refusals.{is_lent, are_spent}

-- ---- a record more

-- there is room for one more change of a page
abbrev pub HasPlace : Room → ℕ → Type 0
HasPlace room page = has_place room.places page ≡ true

-- room is made for one more change of a page, or taken
abbrev pub with_place : Room → ℕ → Room
with_place room page = record room { places = slice_set room.places page true }

abbrev pub without_place : Room → ℕ → Room
without_place room page = record room { places = slice_set room.places page false }

-- a change can go behind those that its page waits for
pub record CanRoute (v : Pooled) (change : Change) : Type 0 where
  pub in_range : change.key.page < length v.waits
  pub next : WaitsInOrder v.frames change.key.page (pending_of v.waits change.key.page ++ change ∷ [])
  pub count : total_waiting v.waits + 1 < 2 ^ 64

-- a change goes behind those that its page waits for, and the page lacks it from now on
abbrev pub with_change : Pooled → Change → Pooled
with_change v change = record v {
  dirty = slice_set v.dirty change.key.page (after_record (entry_of v.dirty change.key.page) change.lsn);
  waits = slice_set v.waits change.key.page (pending_of v.waits change.key.page ++ change ∷ []);
}

-- ---- leases

-- A page that has no frame is read into one. What waits for it and is in the page goes, its row becomes exact, and it counts as
-- read from now on.
pub record Loads (old new : Pooled) (page end : ℕ) : Type 0 where
  pub content : PageState
  pub absent : frame_of old.frames page ≡ None
  pub fetched : IsFetched old.frames page end content
  pub puts : PutsIn old.frames new.frames page content
  pub same : new ≡ record {
    frames = new.frames;
    dirty = slice_set old.dirty page (after_load (first_lsn (above content.lsn (pending_of old.waits page))));
    waits = slice_set old.waits page (above content.lsn (pending_of old.waits page));
    unread = slice_set old.unread page None;
    next = old.next;
  }

-- a page is resident, as it was or by a read of its block
abbrev pub MakesResident : Pooled → Pooled → ℕ → ℕ → Type 0
MakesResident old new page end = MatchOption (frame_of old.frames page) (Loads old new page end) (λ f. new ≡ old)

-- A resident page is lent with the first changes that wait for it, at most 64, by the next number.
pub record LendsFirst (old new : Pooled) (page : ℕ) (lease : Leased) : Type 0 where
  pub unspent : old.next ≡ Some lease.number
  pub left : pending_of old.waits page ≢ []
  pub lends : FrameLends old.frames new.frames page (record { number = lease.number; count = length lease.batch })
  pub lease_is : lease ≡ lease_for lease.number page lends.f.content (pending_of old.waits page)
  pub same : new ≡ record old { frames = new.frames; next = next_number old.next }

-- A page that is not lent and that changes wait for is made resident, and lent with the first changes that it lacks.
pub record Lends (old new : Pooled) (page end : ℕ) (lease : Leased) : Type 0 where
  pub not_lent : is_lent old page ≡ false
  pub some : pending_of old.waits page ≢ []
  pub loaded : Pooled
  pub resident : MakesResident old loaded page end
  pub first : LendsFirst loaded new page lease

-- all that waited for a page is in it: it was made resident, and nothing is left to be lent
pub record HasAll (old new : Pooled) (page end : ℕ) : Type 0 where
  pub some : pending_of old.waits page ≢ []
  pub loads : Loads old new page end
  pub none_left : pending_of new.waits page ≡ []

-- a page that has no frame was not read
pub record NotFetched (fault : FramesFault) (old new : Pooled) (page end : ℕ) : Type 0 where
  pub absent : frame_of old.frames page ≡ None
  pub refuses : RefusesFetch fault old.frames new.frames page end
  pub same : new ≡ record old { frames = new.frames }

-- a page is resident, or could be read for a frame of its own
abbrev pub CanBeResident : Pooled → ℕ → ℕ → Type 0
CanBeResident v page end = MatchOption (frame_of v.frames page) ((content : PageState) × IsFetched v.frames page end content) (λ f. Unit {0})

-- a page has no frame and there is no room for one, or there is no room for a lease
abbrev pub LacksRoom : Held → ℕ → Type 0
LacksRoom held page = ((frame_of held.pool.frames page ≡ None) × (held.room.frames ≡ 0)) ⊎ (held.room.leases ≡ 0)

-- a page could be lent, but for the room
pub record HasNoRoom (old new : Held) (page end : ℕ) : Type 0 where
  pub can : CanBeResident old.pool page end
  pub none : LacksRoom old page
  pub same : new.pool ≡ old.pool

-- a page was not made resident
abbrev pub RefusesLoad : Fault → Held → Held → ℕ → ℕ → Type 0
RefusesLoad PoolFull old new page end = NotFetched FullFrames old.pool new.pool page end
RefusesLoad Device old new page end = NotFetched DiskFailed old.pool new.pool page end
RefusesLoad (BadPage p) old new page end = NotFetched (NoPage p) old.pool new.pool page end
RefusesLoad Memory old new page end = HasNoRoom old new page end
RefusesLoad LogBehind old new page end = ⊥
RefusesLoad PageLent old new page end = ⊥
RefusesLoad NothingToDo old new page end = ⊥
RefusesLoad NumbersSpent old new page end = ⊥

-- a page is not lent, changes wait for it, and there is a number for its lease
pub record MayLend (v : Pooled) (page : ℕ) : Type 0 where
  pub not_lent : is_lent v page ≡ false
  pub some : pending_of v.waits page ≢ []
  pub unspent : are_spent v ≡ false

-- Nothing was lent: the page is lent already; or nothing waits for it, as for no page; or the numbers are spent; or else it was not
-- made resident, or has all that waited for it.
abbrev pub RefusesLend : Fault → Held → Held → ℕ → ℕ → Type 0
RefusesLend PageLent old new page end = (is_lent old.pool page ≡ true) × (new ≡ old)
RefusesLend NothingToDo old new page end =
    ((is_lent old.pool page ≡ false) × (pending_of old.pool.waits page ≡ []) × (new ≡ old)) ⊎ (MayLend old.pool page × HasAll old.pool new.pool page end)
RefusesLend NumbersSpent old new page end = (is_lent old.pool page ≡ false) × (pending_of old.pool.waits page ≢ []) × (are_spent old.pool ≡ true) × (new ≡ old)
RefusesLend PoolFull old new page end = MayLend old.pool page × RefusesLoad PoolFull old new page end
RefusesLend Device old new page end = MayLend old.pool page × RefusesLoad Device old new page end
RefusesLend (BadPage p) old new page end = MayLend old.pool page × RefusesLoad (BadPage p) old new page end
RefusesLend Memory old new page end = MayLend old.pool page × RefusesLoad Memory old new page end
RefusesLend LogBehind old new page end = ⊥

-- A lease is out: its page is lent by its number and with as many changes as it has, the page is as it was lent, and the lease's
-- changes are the first that wait for it.
pub record IsOutstanding (v : Pooled) (lease : Leased) : Type 0 where
  pub f : Framed
  pub resident : frame_of v.frames lease.page ≡ Some f
  pub lent : f.lent ≡ Some (record { number = lease.number; count = length lease.batch })
  pub base : f.content ≡ lease.base
  pub batch : take (length lease.batch) (pending_of v.waits lease.page) ≡ lease.batch

-- A page is taken back with the changes of its lease that are redone, which no longer wait.
pub record Gives (old new : Pooled) (lease : Leased) : Type 0 where
  pub is_lease : IsLease lease
  pub outstanding : IsOutstanding old lease
  pub takes_back : FrameTakesBack old.frames new.frames lease.page (working_of lease)
  pub same : new ≡ record old {
    frames = new.frames;
    waits = slice_set old.waits lease.page (drop lease.done (pending_of old.waits lease.page));
  }

-- the lease of a page is ended; the page is as it was lent, and its changes wait as before
pub record Recalls (old new : Pooled) (page : ℕ) : Type 0 where
  pub was_lent : is_lent old page ≡ true
  pub recalls : FrameRecalls old.frames new.frames page
  pub same : new ≡ record old { frames = new.frames }

-- ---- images

-- a resident page, with this page_LSN, is not written as it is now
pub record IsDueAt (v : Pooled) (page : ℕ) (lsn : Lsn) : Type 0 where
  pub f : Framed
  pub due : IsDue v.frames page f
  pub lsn_is : lsn.0 ≡ f.content.lsn
  pub in_range : page < length v.waits

-- a page with this page_LSN is written to its block, and the first change that waits for it is the first above the image
pub record StoresPage (old new : Pooled) (page : ℕ) (lsn : Lsn) : Type 0 where
  pub writes : Writes old.frames new.frames page
  pub same : new ≡ record old {
    frames = new.frames;
    dirty = slice_set old.dirty page (after_write (entry_of old.dirty page) (first_lsn (pending_of old.waits page)));
  }

-- the log is acknowledged past the page_LSN of a page that is not lent, which is written
pub record Flushes (old new : Pooled) (page : ℕ) (acknowledged : Lsn) : Type 0 where
  pub not_lent : is_lent old page ≡ false
  pub lsn : Lsn
  pub due : IsDueAt old page lsn
  pub logged : lsn.0 < acknowledged.0
  pub stores : StoresPage old new page lsn

-- the log is not acknowledged past the page_LSN of a page that is not written as it is now
pub record IsBehind (v : Pooled) (page : ℕ) (acknowledged : Lsn) : Type 0 where
  pub lsn : Lsn
  pub due : IsDueAt v page lsn
  pub behind : acknowledged.0 ≤ lsn.0

-- the log is acknowledged past the page_LSN of a page, and its write has failed
pub record FlushFails (old new : Pooled) (page : ℕ) (acknowledged : Lsn) : Type 0 where
  pub lsn : Lsn
  pub due : IsDueAt old page lsn
  pub logged : lsn.0 < acknowledged.0
  pub fails : WriteFails old.frames new.frames page
  pub same : new ≡ record old { frames = new.frames }

-- nothing was written
abbrev pub RefusesFlush : Fault → Pooled → Pooled → ℕ → Lsn → Type 0
RefusesFlush PageLent old new page acknowledged = (is_lent old page ≡ true) × (new ≡ old)
RefusesFlush NothingToDo old new page acknowledged = (is_lent old page ≡ false) × NothingIsDue old.frames page × (new ≡ old)
RefusesFlush LogBehind old new page acknowledged = (is_lent old page ≡ false) × IsBehind old page acknowledged × (new ≡ old)
RefusesFlush Device old new page acknowledged = (is_lent old page ≡ false) × FlushFails old new page acknowledged
RefusesFlush NumbersSpent old new page acknowledged = ⊥
RefusesFlush PoolFull old new page acknowledged = ⊥
RefusesFlush Memory old new page acknowledged = ⊥
RefusesFlush (BadPage p) old new page acknowledged = ⊥

-- the device is synced, and the rows move
pub record SyncsPages (old new : Pooled) : Type 0 where
  pub syncs : Syncs old.frames new.frames
  pub same : new ≡ record old { frames = new.frames; dirty = map after_sync old.dirty }

-- the sync has failed
pub record SyncPagesFails (old new : Pooled) : Type 0 where
  pub fails : SyncFails old.frames new.frames
  pub same : new ≡ record old { frames = new.frames }

-- ---- queries

-- the content of a page: that of its frame, or what a read of its block may give
abbrev pub IsPageNow : Pooled → ℕ → PageState → Type 0
IsPageNow v page content = MatchOption (frame_of v.frames page) (IsFound (slot_of v.frames page) page content) (λ f. content ≡ f.content)

-- a page that has no frame could not be read
pub record ReadRefused (fault : FramesFault) (old new : Pooled) (page : ℕ) : Type 0 where
  pub absent : frame_of old.frames page ≡ None
  pub refuses : RefusesReading fault old.frames new.frames page
  pub same : new ≡ record old { frames = new.frames }

abbrev pub RefusesPage : Fault → Pooled → Pooled → ℕ → Type 0
RefusesPage Device old new page = ReadRefused DiskFailed old new page
RefusesPage (BadPage p) old new page = ReadRefused (NoPage p) old new page
RefusesPage LogBehind old new page = ⊥
RefusesPage PageLent old new page = ⊥
RefusesPage NumbersSpent old new page = ⊥
RefusesPage PoolFull old new page = ⊥
RefusesPage NothingToDo old new page = ⊥
RefusesPage Memory old new page = ⊥

-- a device was not laid out: it failed, or an allocation failed before it was called
abbrev pub RefusesFormat : Fault → ℕ → ℕ → Type 0
RefusesFormat Device before now = before < now
RefusesFormat Memory before now = now ≡ before
RefusesFormat LogBehind before now = ⊥
RefusesFormat PageLent before now = ⊥
RefusesFormat NumbersSpent before now = ⊥
RefusesFormat PoolFull before now = ⊥
RefusesFormat NothingToDo before now = ⊥
RefusesFormat (BadPage p) before now = ⊥
