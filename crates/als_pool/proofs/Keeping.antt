-- Each call keeps the pool that of a log, by its answer.
use Rattle.std.proofs.Common.{◌≡◌, ℕ, ◌<◌, ◌≤◌, IsTrue, List, [], ◌∷◌, ◌++◌, length, take, drop, Option, Some, None, inl, inr, refl, sym, ap, subst, ◌∙◌, length-set, false, arith}
use Rattle.std.specs.Prelude.{MatchOption, Result, Ok, Err, IfOk, IfErr, OnOk, OnErr}
use Rattle.std.specs.Result.{IsErrOf}
use Rattle.std.proofs.lemmas.Option.{same_Some}
use Rattle.std.proofs.lemmas.List.{take-append-drop}
use Rattle.als_record.specs.declared.lsn.Lsn.{Lsn}
use Rattle.als_record.specs.declared.change.Change.{Change}
use Rattle.als_record.specs.declared.record.Record.{Record}
use Rattle.als_record.specs.LogText.{end_of, IsLog}
use Rattle.als_record.specs.Pages.{PageState, page_at, change_of, changes_above}
use Rattle.als_frames.specs.declared.fault.Fault.{Fault as FramesFault}
use Rattle.als_frames.specs.declared.fault.Fault.TheVariants.{PoolFull as FullFrames, NothingToDo as NoFrame, Device as DiskFailed, Memory as NoRoom, BadPage as NoPage}
use Rattle.als_frames.specs.Frames.{Framed, Paged, frame_of, slot_of}
use Rattle.als_frames.specs.Images.{synced_lsn, lsn_now, lsn_or, written_or, AreFramesOf}
use Rattle.als_frames.specs.Outcomes.{IsFound, RefusesFetch}
use Rattle.als_frames.proofs.Keeping.{reads, never_bad as bad_frame, never_bad_below, keeps_put, keeps_refused_fetch, keeps_write, keeps_failed_write, keeps_sync, keeps_failed_sync, keeps_record, keeps_mark, synced_is}
use Rattle.als_frames.proofs.LeaseKeeping.{keeps_take_back, keeps_marked}
use Rattle.als_dirty.specs.Entries.{entry_of}
use Rattle.als_pool.specs.declared.fault.Fault.{Fault}
use Rattle.als_pool.specs.declared.fault.Fault.TheVariants.{LogBehind, PoolFull, PageLent, NothingToDo, Device, Memory, BadPage, NumbersSpent}
use Rattle.als_pool.specs.Queues.{pending_of}
use Rattle.als_pool.specs.Pooled.{Pooled, Held, unread_of}
use Rattle.als_pool.specs.Refusals.{is_lent}
use Rattle.als_pool.specs.Outcomes.{with_change, Loads, Lends, LendsFirst, RefusesLend, Gives, Recalls, NotFetched, IsDueAt, StoresPage, Flushes, FlushFails, RefusesFlush, SyncsPages, SyncPagesFails, IsPageNow, ReadRefused, RefusesPage}
use Rattle.als_pool.specs.Images.{IsPageOf, IsPoolOf}
use Rattle.als_lease.specs.Lease.{Leased, working_of}
use Rattle.als_pool.proofs.QueueLists.{some_inside}
use Rattle.als_pool.proofs.LeaseSteps.{Marks, lends-marks, recalls-marks, gives-content, gives-inside, gives-redoes}
use Rattle.als_pool.proofs.PageSteps.{read-it}
use Rattle.als_pool.proofs.PoolSteps.{framed, pool-frames, pool-loads, pool-redoes, pool-marks, pool-stores, pool-syncs, pool-raised, pool-other, pool-change}

-- a page that was not fetched leaves the frames and the blocks as they were
pub fetch_refused : (e : FramesFault) (old new : Paged) (page end : ℕ) → RefusesFetch e old new page end
    → (new.pages ≡ old.pages) × ((p : ℕ) → frame_of new p ≡ frame_of old p) × ((p : ℕ) → synced_lsn new p ≡ synced_lsn old p)
fetch_refused FullFrames old new page end r = (ap (λ (v : Paged). v.pages) r.1, λ p. ap (λ (v : Paged). frame_of v p) r.1, λ p. ap (λ (v : Paged). synced_lsn v p) r.1)
fetch_refused DiskFailed old new page end r = (ap (λ (v : Paged). v.pages) r.1.same, λ p. ap (λ (v : Paged). frame_of v p) r.1.same, λ p. ap (λ (v : Paged). synced_lsn v p) r.1.same)
fetch_refused (NoPage q) old new page end r = (ap (λ (v : Paged). v.pages) r.3, λ p. ap (λ (v : Paged). frame_of v p) r.3, λ p. ap (λ (v : Paged). synced_lsn v p) r.3)
fetch_refused NoRoom old new page end r = absurd r
fetch_refused NoFrame old new page end r = absurd r

module _ (log : List Record) (below : ℕ) where
  keeps_same : (old new : Pooled) → new ≡ old → IsPoolOf log below old → IsPoolOf log below new
  keeps_same old new is h = subst (λ (v : Pooled). IsPoolOf log below v) (sym is) h

  -- ---- leases

  keeps_loads : (old new : Pooled) (page end : ℕ) → page < length old.waits → Loads old new page end → IsPoolOf log below old → IsPoolOf log below new
  keeps_loads old new page end inside loads h =
      let is : loads.content ≡ page_at log page (synced_lsn old.frames page)
      = reads log (synced_lsn old.frames) below old.frames page loads.content (omega (arith, inside, h.paged)) loads.absent loads.fetched.found h.frames in
      pool-loads log below old new page end inside loads is
      (keeps_put log (synced_lsn old.frames) below old.frames new.frames page loads.content loads.absent is loads.puts h.frames) h

  keeps_resident : (old new : Pooled) (page end : ℕ) (o : Option Framed) → page < length old.waits → MatchOption o (Loads old new page end) (λ f. new ≡ old)
      → IsPoolOf log below old → IsPoolOf log below new
  keeps_resident old new page end None inside made h = keeps_loads old new page end inside made h
  keeps_resident old new page end (Some f) inside made h = keeps_same old new made h

  keeps_marks : (old new : Pooled) (page : ℕ) → Marks old new page → IsPoolOf log below old → IsPoolOf log below new
  keeps_marks old new page done h =
      pool-marks log below old new page done (keeps_marked log (synced_lsn old.frames) below old.frames new.frames page done.f done.lent done.resident done.sets done.framed h.frames) h

  keeps_lends : (old new : Pooled) (page end : ℕ) (lease : Leased) → Lends old new page end lease → IsPoolOf log below old → IsPoolOf log below new
  keeps_lends old new page end lease done h =
      keeps_marks done.loaded new page (lends-marks done.loaded new page lease done.first)
      (keeps_resident old done.loaded page end (frame_of old.frames page) (some_inside old.waits page done.some) done.resident h)

  -- what waits for a resident page is what the log has for it above its page_LSN
  pub waits-above : (v : Pooled) (page : ℕ) (f : Framed) → page < length v.waits → frame_of v.frames page ≡ Some f → IsPoolOf log below v → pending_of v.waits page ≡ changes_above log page f.content.lsn
  waits-above v page f inside is h =
      let at : IsPageOf log page (Some f) (synced_lsn v.frames page) (entry_of v.dirty page) (pending_of v.waits page) (unread_of v.unread page)
      = subst (λ (o : Option Framed). IsPageOf log page o (synced_lsn v.frames page) (entry_of v.dirty page) (pending_of v.waits page) (unread_of v.unread page)) is (h.each page inside) in
      (read-it log page f (synced_lsn v.frames page) (entry_of v.dirty page) (pending_of v.waits page) (unread_of v.unread page) at).1.wait

  keeps_gives : (old new : Pooled) (lease : Leased) → Gives old new lease → IsPoolOf log below old → IsPoolOf log below new
  keeps_gives old new lease done h =
      let w : List Change = pending_of old.waits lease.page in
      pool-redoes log below old new lease.page lease.done (gives-redoes old new lease done)
      (keeps_take_back log (synced_lsn old.frames) below old.frames new.frames lease.page (working_of lease) (take lease.done w) (drop lease.done w) done.takes_back
      (λ f is. (
        gives-content old new lease done f is,
        sym (waits-above old lease.page f (gives-inside old new lease done) is h) ∙ sym (take-append-drop lease.done w),
      )) h.frames) h

  keeps_not_fetched : (e : FramesFault) (old new : Pooled) (page end : ℕ) → NotFetched e old new page end → IsPoolOf log below old → IsPoolOf log below new
  keeps_not_fetched e old new page end fails h =
      let same = fetch_refused e old.frames new.frames page end fails.refuses in
      keeps_same (record old { frames = new.frames }) new fails.same
      (pool-frames log below old new.frames (keeps_refused_fetch log (synced_lsn old.frames) below e old.frames new.frames page end fails.refuses h.frames) same.0 same.1 h)

  keeps_refused_lend : (e : Fault) (old new : Held) (page end : ℕ) → RefusesLend e old new page end → IsPoolOf log below old.pool → IsPoolOf log below new.pool
  keeps_refused_lend PageLent old new page end r h = keeps_same old.pool new.pool (ap (λ (v : Held). v.pool) r.1) h
  keeps_refused_lend NothingToDo old new page end (inl r) h = keeps_same old.pool new.pool (ap (λ (v : Held). v.pool) r.2) h
  keeps_refused_lend NothingToDo old new page end (inr r) h = keeps_loads old.pool new.pool page end (some_inside old.pool.waits page r.1.some) r.1.loads h
  keeps_refused_lend NumbersSpent old new page end r h = keeps_same old.pool new.pool (ap (λ (v : Held). v.pool) r.3) h
  keeps_refused_lend PoolFull old new page end r h = keeps_not_fetched FullFrames old.pool new.pool page end r.1 h
  keeps_refused_lend Device old new page end r h = keeps_not_fetched DiskFailed old.pool new.pool page end r.1 h
  keeps_refused_lend Memory old new page end r h = keeps_same old.pool new.pool r.1.same h
  keeps_refused_lend (BadPage p) old new page end r h = keeps_not_fetched (NoPage p) old.pool new.pool page end r.1 h
  keeps_refused_lend LogBehind old new page end r h = absurd r

  pub keeps_lend : (r : Result Leased Fault) (old new : Held) (page end : ℕ) → IfOk r (λ lease. Lends old.pool new.pool page end lease) → IfErr r (λ e. RefusesLend e old new page end)
      → IsPoolOf log below old.pool → IsPoolOf log below new.pool
  keeps_lend (Ok lease) old new page end ok err h = keeps_lends old.pool new.pool page end lease ok h
  keeps_lend (Err e) old new page end ok err h = keeps_refused_lend e old new page end err h

  pub keeps_give : (r : Result (Unit {0}) Leased) (old new : Held) (lease : Leased) → OnOk r (Gives old.pool new.pool lease) → IfErr r (λ l. (l ≡ lease) × (new ≡ old))
      → IsPoolOf log below old.pool → IsPoolOf log below new.pool
  keeps_give (Ok x) old new lease ok err h = keeps_gives old.pool new.pool lease ok h
  keeps_give (Err l) old new lease ok err h = keeps_same old.pool new.pool (ap (λ (v : Held). v.pool) err.1) h

  pub keeps_recall : (r : Result (Unit {0}) Fault) (old new : Held) (page : ℕ) → OnOk r (Recalls old.pool new.pool page) → IfErr r (λ e. (e ≡ NothingToDo) × (is_lent old.pool page ≡ false) × (new ≡ old))
      → IsPoolOf log below old.pool → IsPoolOf log below new.pool
  keeps_recall (Ok x) old new page ok err h = keeps_marks old.pool new.pool page (recalls-marks old.pool new.pool page ok) h
  keeps_recall (Err e) old new page ok err h = keeps_same old.pool new.pool (ap (λ (v : Held). v.pool) err.2) h

  -- a lease has its page as history repeated, and the next changes that the log has for it
  lends-history : (v new : Pooled) (page : ℕ) (lease : Leased) → LendsFirst v new page lease → page < length v.waits → IsPoolOf log below v
      → (lease.base ≡ page_at log page lease.base.lsn) × (lease.batch ++ drop 64 (pending_of new.waits page) ≡ changes_above log page lease.base.lsn)
  lends-history v new page lease done inside h =
      let f = done.lends.f in
      let base : lease.base ≡ f.content = ap (λ (l : Leased). l.base) done.lease_is in
      let batch : lease.batch ≡ take 64 (pending_of v.waits page) = ap (λ (l : Leased). l.batch) done.lease_is in
      let left : pending_of new.waits page ≡ pending_of v.waits page = ap (λ (u : Pooled). pending_of u.waits page) done.same in
      let at : f.content ≡ page_at log page f.content.lsn = (framed log below v page f inside done.lends.resident h).content in (
        base ∙ at ∙ ap (λ (s : PageState). page_at log page s.lsn) (sym base),
        ap (λ (cs : List Change). cs ++ drop 64 (pending_of new.waits page)) batch ∙ ap (λ (cs : List Change). take 64 (pending_of v.waits page) ++ drop 64 cs) left
            ∙ take-append-drop 64 (pending_of v.waits page) ∙ waits-above v page f inside done.lends.resident h ∙ ap (λ (s : PageState). changes_above log page s.lsn) (sym base),
      )

  resident-length : (old loaded : Pooled) (page end : ℕ) (o : Option Framed) → MatchOption o (Loads old loaded page end) (λ f. loaded ≡ old) → length loaded.waits ≡ length old.waits
  resident-length old loaded page end None made = ap (λ (v : Pooled). length v.waits) made.same ∙ length-set old.waits page _
  resident-length old loaded page end (Some f) made = ap (λ (v : Pooled). length v.waits) made

  pub lend-history : (old new : Pooled) (page end : ℕ) (lease : Leased) → Lends old new page end lease → IsPoolOf log below old
      → (lease.base ≡ page_at log page lease.base.lsn) × (lease.batch ++ drop 64 (pending_of new.waits page) ≡ changes_above log page lease.base.lsn)
  lend-history old new page end lease done h =
      let inside : page < length old.waits = some_inside old.waits page done.some in
      let len : length done.loaded.waits ≡ length old.waits = resident-length old done.loaded page end (frame_of old.frames page) done.resident in
      lends-history done.loaded new page lease done.first (omega (arith, inside, len)) (keeps_resident old done.loaded page end (frame_of old.frames page) inside done.resident h)

  -- the block of a page that changes wait for is never bad
  pub never_bad : (r : Result Leased Fault) (old new : Held) (page end p : ℕ) → end_of log ≤ end → IfErr r (λ e. RefusesLend e old new page end) → IsPoolOf log below old.pool → IsErrOf r (BadPage p) → ⊥
  never_bad r old new page end p le err h is =
      let refused : RefusesLend (BadPage p) old new page end = subst (λ (r' : Result Leased Fault). IfErr r' (λ e. RefusesLend e old new page end)) is err in
      let inside : page < length old.pool.waits = some_inside old.pool.waits page refused.0.some in
      never_bad_below log (synced_lsn old.pool.frames) below old.pool.frames page end (omega (arith, inside, h.paged)) refused.1.absent le h.frames refused.1.refuses.2

  -- ---- images

  stable_frame : (v : Pooled) (page : ℕ) (lsn acknowledged : Lsn) → IsDueAt v page lsn → lsn.0 < acknowledged.0 → acknowledged.0 ≤ below
      → (f : Framed) → frame_of v.frames page ≡ Some f → f.content.lsn < below
  stable_frame v page lsn acknowledged due logged le f is =
      let same : due.f ≡ f = same_Some due.f f (sym due.due.resident ∙ is) in
      subst (λ (x : Framed). x.content.lsn < below) same (omega (arith, due.lsn_is, logged, le))

  stored-frames : (old new : Pooled) (page : ℕ) (lsn acknowledged : Lsn) → IsDueAt old page lsn → lsn.0 < acknowledged.0 → acknowledged.0 ≤ below → StoresPage old new page lsn
      → IsPoolOf log below old → AreFramesOf log (synced_lsn old.frames) below new.frames
  stored-frames old new page lsn acknowledged due logged le done h =
      keeps_write log (synced_lsn old.frames) below old.frames new.frames page (stable_frame old page lsn acknowledged due logged le) done.writes h.frames

  failed-frames : (old new : Pooled) (page : ℕ) (acknowledged : Lsn) → acknowledged.0 ≤ below → FlushFails old new page acknowledged → IsPoolOf log below old
      → AreFramesOf log (synced_lsn old.frames) below new.frames
  failed-frames old new page acknowledged le fails h =
      keeps_failed_write log (synced_lsn old.frames) below old.frames new.frames page (stable_frame old page fails.lsn acknowledged fails.due fails.logged le) fails.fails h.frames

  keeps_flush_fails : (old new : Pooled) (page : ℕ) (acknowledged : Lsn) → acknowledged.0 ≤ below → FlushFails old new page acknowledged → IsPoolOf log below old → IsPoolOf log below new
  keeps_flush_fails old new page acknowledged le fails h =
      keeps_same (record old { frames = new.frames }) new fails.same
      (pool-frames log below old new.frames (failed-frames old new page acknowledged le fails h)
      (ap (λ (v : Paged). v.pages) fails.fails.same) (λ p. ap (λ (v : Paged). frame_of v p) fails.fails.same) h)

  keeps_refused_flush : (e : Fault) (old new : Pooled) (page : ℕ) (acknowledged : Lsn) → acknowledged.0 ≤ below → RefusesFlush e old new page acknowledged → IsPoolOf log below old → IsPoolOf log below new
  keeps_refused_flush PageLent old new page acknowledged le r h = keeps_same old new r.1 h
  keeps_refused_flush NumbersSpent old new page acknowledged le r h = absurd r
  keeps_refused_flush NothingToDo old new page acknowledged le r h = keeps_same old new r.2 h
  keeps_refused_flush LogBehind old new page acknowledged le r h = keeps_same old new r.2 h
  keeps_refused_flush Device old new page acknowledged le r h = keeps_flush_fails old new page acknowledged le r.1 h
  keeps_refused_flush PoolFull old new page acknowledged le r h = absurd r
  keeps_refused_flush Memory old new page acknowledged le r h = absurd r
  keeps_refused_flush (BadPage p) old new page acknowledged le r h = absurd r

  pub keeps_flush : (r : Result (Unit {0}) Fault) (old new : Pooled) (page : ℕ) (acknowledged : Lsn) → OnOk r (Flushes old new page acknowledged)
      → IfErr r (λ e. RefusesFlush e old new page acknowledged) → acknowledged.0 ≤ below → IsPoolOf log below old → IsPoolOf log below new
  keeps_flush (Ok x) old new page acknowledged ok err le h =
      pool-stores log below old new page ok.lsn ok.due ok.stores (stored-frames old new page ok.lsn acknowledged ok.due ok.logged le ok.stores h) h
  keeps_flush (Err e) old new page acknowledged ok err le h = keeps_refused_flush e old new page acknowledged le err h

  pub synced-frames : (old new : Pooled) → IsTrue old.frames.sure → SyncsPages old new → IsPoolOf log below old
      → AreFramesOf log (λ p. written_or (frame_of old.frames p) (synced_lsn old.frames p)) below new.frames
  synced-frames old new sure done h = keeps_sync log (synced_lsn old.frames) below old.frames new.frames sure done.syncs h.frames

  keeps_sync_fails : (old new : Pooled) → SyncPagesFails old new → IsPoolOf log below old → IsPoolOf log below new
  keeps_sync_fails old new fails h =
      keeps_same (record old { frames = new.frames }) new fails.same
      (pool-frames log below old new.frames (keeps_failed_sync log (synced_lsn old.frames) below old.frames new.frames fails.fails h.frames)
      (ap (λ (v : Paged). v.pages) fails.fails.same) (λ p. ap (λ (v : Paged). frame_of v p) fails.fails.same) h)

  pub keeps_sync_pages : (r : Result (Unit {0}) Fault) (old new : Pooled) → OnOk r (SyncsPages old new) → OnErr r (SyncPagesFails old new) → IsTrue old.frames.sure
      → IsPoolOf log below old → IsPoolOf log below new
  keeps_sync_pages (Ok x) old new ok err sure h = pool-syncs log below old new ok (synced-frames old new sure ok h) h
  keeps_sync_pages (Err e) old new ok err sure h = keeps_sync_fails old new err h

  -- ---- the page_LSNs last synced never fall

  flushed-lsns : (old new : Pooled) (p : ℕ) → p < length old.waits → new.frames.pages ≡ old.frames.pages → AreFramesOf log (synced_lsn old.frames) below new.frames → IsPoolOf log below old
      → synced_lsn old.frames p ≤ synced_lsn new.frames p
  flushed-lsns old new p lt pages are h =
      let is : synced_lsn new.frames p ≡ synced_lsn old.frames p = synced_is log (synced_lsn old.frames) below new.frames p (omega (arith, lt, pages, h.paged)) are in
      omega (arith, is)

  same-grows : (old new : Pooled) (p : ℕ) → new ≡ old → synced_lsn old.frames p ≤ synced_lsn new.frames p
  same-grows old new p is = let same : synced_lsn new.frames p ≡ synced_lsn old.frames p = ap (λ (v : Pooled). synced_lsn v.frames p) is in omega (arith, same)

  refused_flush_grows : (e : Fault) (old new : Pooled) (page p : ℕ) (acknowledged : Lsn) → p < length old.waits → RefusesFlush e old new page acknowledged → acknowledged.0 ≤ below → IsPoolOf log below old
      → synced_lsn old.frames p ≤ synced_lsn new.frames p
  refused_flush_grows PageLent old new page p acknowledged lt r le h = same-grows old new p r.1
  refused_flush_grows NumbersSpent old new page p acknowledged lt r le h = absurd r
  refused_flush_grows NothingToDo old new page p acknowledged lt r le h = same-grows old new p r.2
  refused_flush_grows LogBehind old new page p acknowledged lt r le h = same-grows old new p r.2
  refused_flush_grows Device old new page p acknowledged lt r le h =
      flushed-lsns old new p lt (ap (λ (v : Paged). v.pages) r.1.fails.same) (failed-frames old new page acknowledged le r.1 h) h
  refused_flush_grows PoolFull old new page p acknowledged lt r le h = absurd r
  refused_flush_grows Memory old new page p acknowledged lt r le h = absurd r
  refused_flush_grows (BadPage q) old new page p acknowledged lt r le h = absurd r

  pub flush_grows : (r : Result (Unit {0}) Fault) (old new : Pooled) (page p : ℕ) (acknowledged : Lsn) → p < length old.waits → OnOk r (Flushes old new page acknowledged)
      → IfErr r (λ e. RefusesFlush e old new page acknowledged) → acknowledged.0 ≤ below → IsPoolOf log below old → synced_lsn old.frames p ≤ synced_lsn new.frames p
  flush_grows (Ok x) old new page p acknowledged lt ok err le h =
      flushed-lsns old new p lt (ap (λ (v : Paged). v.pages) ok.stores.writes.same) (stored-frames old new page ok.lsn acknowledged ok.due ok.logged le ok.stores h) h
  flush_grows (Err e) old new page p acknowledged lt ok err le h = refused_flush_grows e old new page p acknowledged lt err le h

  -- ---- more of the log

  pub keeps_mark_raised : (v : Pooled) (more : ℕ) → below ≤ more → IsPoolOf log below v → IsPoolOf log more v
  keeps_mark_raised v more le h = pool-raised log below v more (keeps_mark log (synced_lsn v.frames) below v.frames more le h.frames) h

  pub keeps_other : (v : Pooled) (r : Record) → IsLog v.frames.pages (log ++ r ∷ []) → r.lsn.0 ≡ end_of log → change_of r ≡ None → IsPoolOf log below v → IsPoolOf (log ++ r ∷ []) below v
  keeps_other v r is_log placed none h = pool-other log below r placed v none (keeps_record log (synced_lsn v.frames) below v.frames r is_log placed h.frames) h

  pub keeps_route : (v : Pooled) (r : Record) (c : Change) → c.key.page < length v.waits → IsLog v.frames.pages (log ++ r ∷ []) → r.lsn.0 ≡ end_of log → change_of r ≡ Some c
      → IsPoolOf log below v → IsPoolOf (log ++ r ∷ []) below (with_change v c)
  keeps_route v r c inside is_log placed is h =
      pool-change log below r placed v c inside is (keeps_record log (synced_lsn v.frames) below v.frames r is_log placed h.frames) h

  -- ---- queries

  now_history : (v : Pooled) (page : ℕ) (content : PageState) (o : Option Framed) → page < length v.waits → frame_of v.frames page ≡ o
      → MatchOption o (IsFound (slot_of v.frames page) page content) (λ f. content ≡ f.content) → IsPoolOf log below v → content ≡ page_at log page (lsn_or o (synced_lsn v.frames page))
  now_history v page content None inside is found h = reads log (synced_lsn v.frames) below v.frames page content (omega (arith, inside, h.paged)) is found h.frames
  now_history v page content (Some f) inside is same h = same ∙ (framed log below v page f inside is h).content

  -- a page as it is now is history repeated
  pub page_history : (v : Pooled) (page : ℕ) (content : PageState) → page < length v.waits → IsPageNow v page content → IsPoolOf log below v → content ≡ page_at log page (lsn_now v.frames page)
  page_history v page content inside now h = now_history v page content (frame_of v.frames page) inside refl now h

  pub page_sound : {T : Type 0} (r : Result T Fault) (old new : Pooled) (page p : ℕ) → page < length old.waits → IfErr r (λ e. RefusesPage e old new page)
      → IsPoolOf log below old → IsErrOf r (BadPage p) → ⊥
  page_sound r old new page p inside err h is =
      let refused : ReadRefused (NoPage p) old new page = subst (λ r'. IfErr r' (λ e. RefusesPage e old new page)) is err in
      bad_frame log (synced_lsn old.frames) below old.frames page (omega (arith, inside, h.paged)) refused.absent h.frames refused.refuses.1

  read_frames : (e : FramesFault) (old new : Pooled) (page : ℕ) → ReadRefused e old new page → IsPoolOf log below old → IsPoolOf log below new
  read_frames DiskFailed old new page r h =
      keeps_same (record old { frames = new.frames }) new r.same
      (pool-frames log below old new.frames (subst (AreFramesOf log (synced_lsn old.frames) below) (sym r.refuses.same) (record { is_log = h.frames.is_log; each = h.frames.each }))
      (ap (λ (v : Paged). v.pages) r.refuses.same) (λ p. ap (λ (v : Paged). frame_of v p) r.refuses.same) h)
  read_frames (NoPage q) old new page r h = keeps_same old new (r.same ∙ ap (λ (f : Paged). record old { frames = f }) r.refuses.2) h
  read_frames FullFrames old new page r h = absurd r.refuses
  read_frames NoRoom old new page r h = absurd r.refuses
  read_frames NoFrame old new page r h = absurd r.refuses

  refused_page : (e : Fault) (old new : Pooled) (page : ℕ) → RefusesPage e old new page → IsPoolOf log below old → IsPoolOf log below new
  refused_page Device old new page r h = read_frames DiskFailed old new page r h
  refused_page (BadPage p) old new page r h = read_frames (NoPage p) old new page r h
  refused_page LogBehind old new page r h = absurd r
  refused_page PageLent old new page r h = absurd r
  refused_page NumbersSpent old new page r h = absurd r
  refused_page PoolFull old new page r h = absurd r
  refused_page NothingToDo old new page r h = absurd r
  refused_page Memory old new page r h = absurd r

  pub keeps_page : {T : Type 0} (r : Result T Fault) (old new : Held) (page : ℕ) → OnOk r (new ≡ old) → IfErr r (λ e. RefusesPage e old.pool new.pool page)
      → IsPoolOf log below old.pool → IsPoolOf log below new.pool
  keeps_page (Ok x) old new page ok err h = keeps_same old.pool new.pool (ap (λ (v : Held). v.pool) ok) h
  keeps_page (Err e) old new page ok err h = refused_page e old.pool new.pool page err h
