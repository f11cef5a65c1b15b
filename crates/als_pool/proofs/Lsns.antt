-- Which pages' page_LSNs a call leaves as they were.
use Rattle.std.proofs.Common.{false, ◌≡◌, ◌≢◌, ◌⊎◌, ℕ, ◌<◌, ◌≤◌, IsTrue, List, length, Option, Some, None, inl, inr, refl, sym, ap, subst, ◌∙◌, arith}
use Rattle.std.specs.Prelude.{MatchOption, Result, Ok, Err, IfOk, IfErr, OnOk, OnErr}
use Rattle.std.specs.Option.{option_map}
use Rattle.std.proofs.lemmas.Bool.{cases_eq}
use Rattle.als_record.specs.declared.lsn.Lsn.{Lsn}
use Rattle.als_record.specs.declared.record.Record.{Record}
use Rattle.als_frames.specs.declared.fault.Fault.{Fault as FramesFault}
use Rattle.als_frames.specs.declared.fault.Fault.TheVariants.{PoolFull as FullFrames, Device as DiskFailed, BadPage as NoPage}
use Rattle.als_frames.specs.Frames.{Framed, Paged, frame_of, slot_of}
use Rattle.als_frames.specs.Images.{synced_lsn, lsn_now, lsn_or, written_or, spelled_lsn, synced_content}
use Rattle.als_frames.specs.Outcomes.{IsReplaced, synced_frame, WriteFails}
use Rattle.als_disk.specs.Slot.{Slot}
use Rattle.als_frames.proofs.Keeping.{synced_is}
use Rattle.als_dirty.specs.declared.dirty_page.DirtyPage.{DirtyPage}
use Rattle.als_dirty.specs.Entries.{entry_of}
use Rattle.als_record.specs.declared.change.Change.{Change}
use Rattle.als_pool.specs.declared.fault.Fault.{Fault}
use Rattle.als_pool.specs.declared.fault.Fault.TheVariants.{LogBehind, PoolFull, PageLent, NothingToDo, Device, Memory, BadPage, NumbersSpent}
use Rattle.als_pool.specs.Queues.{pending_of}
use Rattle.als_pool.specs.Pooled.{Pooled, Held, SameLsns, SameLsnsBut, unread_of}
use Rattle.als_pool.specs.Outcomes.{Loads, Lends, RefusesLend, Gives, Recalls, NotFetched, StoresPage, Flushes, RefusesFlush, SyncsPages, SyncPagesFails}
use Rattle.als_pool.specs.Images.{IsPageOf, IsPoolOf}
use Rattle.als_lease.specs.Lease.{Leased}
use Rattle.als_pool.specs.Refusals.{is_lent}
use Rattle.als_pool.proofs.LeaseSteps.{Marks, recalls-marks}
use Rattle.als_pool.proofs.PoolSteps.{framed}
use Rattle.als_pool.proofs.Keeping.{fetch_refused, synced-frames}

-- nothing has changed
lsns-same : (old new : Pooled) → new ≡ old → SameLsns old new
lsns-same old new is p lt = ap (λ (v : Pooled). lsn_now v.frames p) is

-- the page_LSN of a page of which neither the frame nor what its block spells has changed
lsn-now : (old new : Paged) (p : ℕ) → frame_of new p ≡ frame_of old p → synced_lsn new p ≡ synced_lsn old p → lsn_now new p ≡ lsn_now old p
lsn-now old new p fe se = ap (λ (o : Option Framed). lsn_or o (synced_lsn new p)) fe ∙ ap (λ (n : ℕ). lsn_or (frame_of old p) n) se

-- ---- leases

not-fetched : (e : FramesFault) (old new : Pooled) (page end p : ℕ) → NotFetched e old new page end → (lsn_now new.frames p ≡ lsn_now old.frames p) × (synced_lsn new.frames p ≡ synced_lsn old.frames p)
not-fetched e old new page end p fails =
    let same = fetch_refused e old.frames new.frames page end fails.refuses in
    (lsn-now old.frames new.frames p (same.1 p) (same.2 p), same.2 p)

loads-spelled : (old new : Pooled) (page end p : ℕ) → Loads old new page end → synced_lsn new.frames p ≡ synced_lsn old.frames p
loads-spelled old new page end p loads = ap (λ (v : Paged). synced_lsn v p) loads.puts.same

resident-spelled : (old new : Pooled) (page end p : ℕ) (o : Option Framed) → MatchOption o (Loads old new page end) (λ f. new ≡ old) → synced_lsn new.frames p ≡ synced_lsn old.frames p
resident-spelled old new page end p None made = loads-spelled old new page end p made
resident-spelled old new page end p (Some f) made = ap (λ (v : Pooled). synced_lsn v.frames p) made

-- the lease of a page begins or ends, or what it has redone is taken back
framed-spelled : (old new : Pooled) (p : ℕ) → new.frames ≡ record old.frames { frames = new.frames.frames } → synced_lsn new.frames p ≡ synced_lsn old.frames p
framed-spelled old new p same = ap (λ (v : Paged). synced_lsn v p) same

lends-spelled : (old new : Pooled) (page end p : ℕ) (lease : Leased) → Lends old new page end lease → synced_lsn new.frames p ≡ synced_lsn old.frames p
lends-spelled old new page end p lease done = framed-spelled done.loaded new p done.first.lends.same ∙ resident-spelled old done.loaded page end p (frame_of old.frames page) done.resident

refused-spelled : (e : Fault) (old new : Held) (page end p : ℕ) → RefusesLend e old new page end → synced_lsn new.pool.frames p ≡ synced_lsn old.pool.frames p
refused-spelled PageLent old new page end p r = ap (λ (v : Held). synced_lsn v.pool.frames p) r.1
refused-spelled NothingToDo old new page end p (inl r) = ap (λ (v : Held). synced_lsn v.pool.frames p) r.2
refused-spelled NothingToDo old new page end p (inr r) = loads-spelled old.pool new.pool page end p r.1.loads
refused-spelled NumbersSpent old new page end p r = ap (λ (v : Held). synced_lsn v.pool.frames p) r.3
refused-spelled PoolFull old new page end p r = (not-fetched FullFrames old.pool new.pool page end p r.1).1
refused-spelled Device old new page end p r = (not-fetched DiskFailed old.pool new.pool page end p r.1).1
refused-spelled Memory old new page end p r = ap (λ (v : Pooled). synced_lsn v.frames p) r.1.same
refused-spelled (BadPage q) old new page end p r = (not-fetched (NoPage q) old.pool new.pool page end p r.1).1
refused-spelled LogBehind old new page end p r = absurd r

pub lend-spelled : (r : Result Leased Fault) (old new : Held) (page end p : ℕ) → IfOk r (λ lease. Lends old.pool new.pool page end lease) → IfErr r (λ e. RefusesLend e old new page end)
    → synced_lsn new.pool.frames p ≡ synced_lsn old.pool.frames p
lend-spelled (Ok lease) old new page end p ok err = lends-spelled old.pool new.pool page end p lease ok
lend-spelled (Err e) old new page end p ok err = refused-spelled e old new page end p err

pub give-spelled : (r : Result (Unit {0}) Leased) (old new : Held) (lease : Leased) (p : ℕ) → OnOk r (Gives old.pool new.pool lease) → IfErr r (λ l. (l ≡ lease) × (new ≡ old))
    → synced_lsn new.pool.frames p ≡ synced_lsn old.pool.frames p
give-spelled (Ok x) old new lease p ok err = framed-spelled old.pool new.pool p ok.takes_back.same
give-spelled (Err l) old new lease p ok err = ap (λ (v : Held). synced_lsn v.pool.frames p) err.1

pub recall-spelled : (r : Result (Unit {0}) Fault) (old new : Held) (page p : ℕ) → OnOk r (Recalls old.pool new.pool page) → IfErr r (λ e. (e ≡ NothingToDo) × (is_lent old.pool page ≡ false) × (new ≡ old))
    → synced_lsn new.pool.frames p ≡ synced_lsn old.pool.frames p
recall-spelled (Ok x) old new page p ok err = framed-spelled old.pool new.pool p ok.recalls.same
recall-spelled (Err e) old new page p ok err = ap (λ (v : Held). synced_lsn v.pool.frames p) err.2

lsns-marks : (old new : Pooled) (page : ℕ) → Marks old new page → SameLsns old new
lsns-marks old new page done p lt =
    elim (cases_eq p page) [
      | inl is ↦ subst (λ (k : ℕ). lsn_now new.frames k ≡ lsn_now old.frames k) (sym is)
          (ap (λ (o : Option Framed). lsn_or o (synced_lsn new.frames page)) done.sets.frame ∙ ap (λ (o : Option Framed). lsn_or o (synced_lsn old.frames page)) (sym done.resident))
      | inr ne ↦ lsn-now old.frames new.frames p (done.sets.others p ne) (framed-spelled old new p done.framed)
    ]

pub lsns_recall : (r : Result (Unit {0}) Fault) (old new : Held) (page : ℕ) → OnOk r (Recalls old.pool new.pool page) → IfErr r (λ e. (e ≡ NothingToDo) × (is_lent old.pool page ≡ false) × (new ≡ old))
    → SameLsns old.pool new.pool
lsns_recall (Ok x) old new page ok err = lsns-marks old.pool new.pool page (recalls-marks old.pool new.pool page ok)
lsns_recall (Err e) old new page ok err = lsns-same old.pool new.pool (ap (λ (v : Held). v.pool) err.2)

pub others_give : (r : Result (Unit {0}) Leased) (old new : Held) (lease : Leased) → OnOk r (Gives old.pool new.pool lease) → IfErr r (λ l. (l ≡ lease) × (new ≡ old))
    → SameLsnsBut lease.page old.pool new.pool
others_give (Ok x) old new lease ok err p lt ne = lsn-now old.pool.frames new.pool.frames p (ok.takes_back.sets.others p ne) (framed-spelled old.pool new.pool p ok.takes_back.same)
others_give (Err l) old new lease ok err p lt ne = lsns-same old.pool new.pool (ap (λ (v : Held). v.pool) err.1) p lt

module _ (log : List Record) (below : ℕ) where
  other_loaded : (old new : Pooled) (page end p : ℕ) → p < length old.waits → p ≢ page → Loads old new page end → IsPoolOf log below old → lsn_now new.frames p ≡ lsn_now old.frames p
  other_loaded old new page end p lt ne loads h = one (loads.puts.others p ne)
    where
      one : (frame_of new.frames p ≡ frame_of old.frames p) ⊎ IsReplaced (frame_of old.frames p) (frame_of new.frames p) → lsn_now new.frames p ≡ lsn_now old.frames p
      one (inl same) = lsn-now old.frames new.frames p same (loads-spelled old new page end p loads)
      one (inr (f, was, clean, gone)) =
          let at = framed log below old p f lt was h in
          let now : f.content.lsn ≡ synced_lsn old.frames p = omega (arith, clean.0, at.synced_is) in
          ap (λ (x : Option Framed). lsn_or x (synced_lsn new.frames p)) gone ∙ loads-spelled old new page end p loads ∙ sym now ∙ ap (λ (x : Option Framed). lsn_or x (synced_lsn old.frames p)) (sym was)

  others_resident : (old new : Pooled) (page end p : ℕ) (o : Option Framed) → p < length old.waits → p ≢ page → MatchOption o (Loads old new page end) (λ f. new ≡ old) → IsPoolOf log below old
      → lsn_now new.frames p ≡ lsn_now old.frames p
  others_resident old new page end p None lt ne made h = other_loaded old new page end p lt ne made h
  others_resident old new page end p (Some f) lt ne made h = lsns-same old new made p lt

  others_lends : (old new : Pooled) (page end : ℕ) (lease : Leased) → Lends old new page end lease → IsPoolOf log below old → SameLsnsBut page old new
  others_lends old new page end lease done h p lt ne =
      lsn-now done.loaded.frames new.frames p (done.first.lends.sets.others p ne) (framed-spelled done.loaded new p done.first.lends.same)
      ∙ others_resident old done.loaded page end p (frame_of old.frames page) lt ne done.resident h

  others_refused : (e : Fault) (old new : Held) (page end : ℕ) → RefusesLend e old new page end → IsPoolOf log below old.pool → SameLsnsBut page old.pool new.pool
  others_refused PageLent old new page end r h p lt ne = lsns-same old.pool new.pool (ap (λ (v : Held). v.pool) r.1) p lt
  others_refused NothingToDo old new page end (inl r) h p lt ne = lsns-same old.pool new.pool (ap (λ (v : Held). v.pool) r.2) p lt
  others_refused NothingToDo old new page end (inr r) h p lt ne = other_loaded old.pool new.pool page end p lt ne r.1.loads h
  others_refused NumbersSpent old new page end r h p lt ne = lsns-same old.pool new.pool (ap (λ (v : Held). v.pool) r.3) p lt
  others_refused PoolFull old new page end r h p lt ne = (not-fetched FullFrames old.pool new.pool page end p r.1).0
  others_refused Device old new page end r h p lt ne = (not-fetched DiskFailed old.pool new.pool page end p r.1).0
  others_refused Memory old new page end r h p lt ne = lsns-same old.pool new.pool r.1.same p lt
  others_refused (BadPage q) old new page end r h p lt ne = (not-fetched (NoPage q) old.pool new.pool page end p r.1).0
  others_refused LogBehind old new page end r h p lt ne = absurd r

  pub others_lend : (r : Result Leased Fault) (old new : Held) (page end : ℕ) → IfOk r (λ lease. Lends old.pool new.pool page end lease) → IfErr r (λ e. RefusesLend e old new page end)
      → IsPoolOf log below old.pool → SameLsnsBut page old.pool new.pool
  others_lend (Ok lease) old new page end ok err h = others_lends old.pool new.pool page end lease ok h
  others_lend (Err e) old new page end ok err h = others_refused e old new page end err h

-- ---- images

slot-spelled : (old new : Paged) (p : ℕ) → slot_of new p ≡ slot_of old p → synced_lsn new p ≡ synced_lsn old p
slot-spelled old new p is = ap (λ (s : Slot). spelled_lsn (synced_content s)) is

lsns-stores : (old new : Pooled) (page : ℕ) (lsn : Lsn) → StoresPage old new page lsn → SameLsns old new
lsns-stores old new page lsn done p lt =
    elim (cases_eq p page) [
      | inl is ↦ subst (λ (k : ℕ). lsn_now new.frames k ≡ lsn_now old.frames k) (sym is)
          (ap (λ (o : Option Framed). lsn_or o (synced_lsn new.frames page)) done.writes.sets.frame ∙ ap (λ (o : Option Framed). lsn_or o (synced_lsn old.frames page)) (sym done.writes.due.resident))
      | inr ne ↦ lsn-now old.frames new.frames p (done.writes.sets.others p ne) (slot-spelled old.frames new.frames p (done.writes.slots.1 p ne))
    ]

lsns-failed : (old new : Paged) (page p : ℕ) → WriteFails old new page → lsn_now new p ≡ lsn_now old p
lsns-failed old new page p fails =
    elim (cases_eq p page) [
      | inl is ↦ subst (λ (k : ℕ). lsn_now new k ≡ lsn_now old k) (sym is)
          (ap (λ (o : Option Framed). lsn_or o (synced_lsn new page)) (ap (λ (v : Paged). frame_of v page) fails.same ∙ fails.due.resident) ∙ ap (λ (o : Option Framed). lsn_or o (synced_lsn old page)) (sym fails.due.resident))
      | inr ne ↦ lsn-now old new p (ap (λ (v : Paged). frame_of v p) fails.same) (slot-spelled old new p (fails.slots.1 p ne))
    ]

lsns-refused_flush : (e : Fault) (old new : Pooled) (page : ℕ) (acknowledged : Lsn) → RefusesFlush e old new page acknowledged → SameLsns old new
lsns-refused_flush PageLent old new page acknowledged r = lsns-same old new r.1
lsns-refused_flush NumbersSpent old new page acknowledged r = absurd r
lsns-refused_flush NothingToDo old new page acknowledged r = lsns-same old new r.2
lsns-refused_flush LogBehind old new page acknowledged r = lsns-same old new r.2
lsns-refused_flush Device old new page acknowledged r = λ p lt. lsns-failed old.frames new.frames page p r.1.fails
lsns-refused_flush PoolFull old new page acknowledged r = absurd r
lsns-refused_flush Memory old new page acknowledged r = absurd r
lsns-refused_flush (BadPage p) old new page acknowledged r = absurd r

pub lsns_flush : (r : Result (Unit {0}) Fault) (old new : Pooled) (page : ℕ) (acknowledged : Lsn) → OnOk r (Flushes old new page acknowledged)
    → IfErr r (λ e. RefusesFlush e old new page acknowledged) → SameLsns old new
lsns_flush (Ok x) old new page acknowledged ok err = lsns-stores old new page ok.lsn ok.stores
lsns_flush (Err e) old new page acknowledged ok err = lsns-refused_flush e old new page acknowledged err

-- the device is synced
lsn-synced : (o : Option Framed) (s s' : ℕ) → s' ≡ written_or o s → lsn_or (option_map synced_frame o) s' ≡ lsn_or o s
lsn-synced None s s' is = is
lsn-synced (Some f) s s' is = refl

synced-least : (log : List Record) (p : ℕ) (o : Option Framed) (s : ℕ) (e : DirtyPage) (w : List Change) (u : Option Lsn) → IsPageOf log p o s e w u → s ≤ written_or o s
synced-least log p o s e w None h = h.row.order
synced-least log p o s e w (Some from) h = let is : written_or o s ≡ s = ap (λ (x : Option Framed). written_or x s) h.absent in omega (arith, is)

module _ (log : List Record) (below : ℕ) where
  synced-now : (old new : Pooled) (p : ℕ) → p < length old.waits → IsTrue old.frames.sure → SyncsPages old new → IsPoolOf log below old
      → synced_lsn new.frames p ≡ written_or (frame_of old.frames p) (synced_lsn old.frames p)
  synced-now old new p lt sure done h =
      let pages : new.frames.pages ≡ old.frames.pages = ap (λ (v : Paged). v.pages) done.syncs.same in
      synced_is log (λ q. written_or (frame_of old.frames q) (synced_lsn old.frames q)) below new.frames p (omega (arith, lt, pages, h.paged)) (synced-frames log below old new sure done h)

  failed-sync : (old new : Pooled) (p : ℕ) → SyncPagesFails old new → (lsn_now new.frames p ≡ lsn_now old.frames p) × (synced_lsn new.frames p ≡ synced_lsn old.frames p)
  failed-sync old new p fails = (ap (λ (v : Paged). lsn_now v p) fails.fails.same, ap (λ (v : Paged). synced_lsn v p) fails.fails.same)

  pub lsns_sync : (r : Result (Unit {0}) Fault) (old new : Pooled) → OnOk r (SyncsPages old new) → OnErr r (SyncPagesFails old new) → IsTrue old.frames.sure → IsPoolOf log below old → SameLsns old new
  lsns_sync (Ok x) old new ok err sure h p lt =
      ap (λ (o : Option Framed). lsn_or o (synced_lsn new.frames p)) (ok.syncs.frames p) ∙ lsn-synced (frame_of old.frames p) (synced_lsn old.frames p) (synced_lsn new.frames p) (synced-now old new p lt sure ok h)
  lsns_sync (Err e) old new ok err sure h p lt = (failed-sync old new p err).0

  pub sync_grows : (r : Result (Unit {0}) Fault) (old new : Pooled) (p : ℕ) → p < length old.waits → OnOk r (SyncsPages old new) → OnErr r (SyncPagesFails old new) → IsTrue old.frames.sure
      → IsPoolOf log below old → synced_lsn old.frames p ≤ synced_lsn new.frames p
  sync_grows (Ok x) old new p lt ok err sure h =
      let least = synced-least log p (frame_of old.frames p) (synced_lsn old.frames p) (entry_of old.dirty p) (pending_of old.waits p) (unread_of old.unread p) (h.each p lt) in
      omega (arith, least, synced-now old new p lt sure ok h)
  sync_grows (Err e) old new p lt ok err sure h = let same = (failed-sync old new p err).1 in omega (arith, same)
