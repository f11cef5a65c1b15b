-- What the calls of the pool are of a store: leases, and the writes of pages.
use Rattle.std.proofs.Common.{◌≡◌, ℕ, zero, suc, ◌+◌, ◌<◌, Bool, true, false, List, [], ◌∷◌, length}
use Rattle.std.proofs.Common.{take, Option, Some, None, nat_eq, inl}
use Rattle.std.proofs.Common.{inr, refl, sym, ap, ◌∙◌, arith}
use Rattle.std.specs.Prelude.{not, ◌&&◌, is_none, is_some, MatchOption}
use Rattle.std.proofs.lemmas.Bool.{ne_eqb, not_from_false, le-leb, lt-leb}
use Rattle.als_record.specs.declared.change.Change.{Change}
use Rattle.als_record.specs.declared.lsn.Lsn.{Lsn}
use Rattle.als_record.specs.LogText.{end_of}
use Rattle.als_record.specs.Pages.{PageState}
use Rattle.als_lease.specs.Lease.{Leased}
use Rattle.als_validator.specs.declared.validator.Validator.{Validator}
use Rattle.als_log.specs.Local.{Local}
use Rattle.als_ckpt.specs.Control.{Controlled}
use Rattle.als_frames.specs.Frames.{Framed, Paged, frame_of}
use Rattle.als_frames.specs.Images.{lsn_or, written_or, synced_lsn}
use Rattle.als_frames.specs.Leases.{lent_frame}
use Rattle.als_frames.specs.Outcomes.{IsFetched, NothingIsDue}
use Rattle.als_pool.specs.declared.fault.Fault.{Fault as PoolFault}
use Rattle.als_pool.specs.declared.fault.Fault.TheVariants as pool_fault
use Rattle.als_pool.specs.Queues.{pending_of}
use Rattle.als_pool.specs.Pooled.{Pooled, Room, Held, view_of}
use Rattle.als_pool.specs.Refusals.{is_lent, are_spent, is_full, is_due, is_behind}
use Rattle.als_pool.specs.Outcomes.{Loads, Lends, IsOutstanding, RefusesLend, MayLend, Gives, Recalls}
use Rattle.als_pool.specs.Outcomes.{RefusesPage, IsDueAt, IsBehind, Flushes, FlushFails}
use Rattle.als_pool.proofs.Refusing.{nothing_waits, something_waits, fullness, has_frame}
use Rattle.als_pool.proofs.Refusing.{frame_is_none, resident_not_full, nothing_due}
use Rattle.als_store.specs.Faults.{of_pool}
use Rattle.als_store.specs.Stored.{Stored}
use Rattle.als_store.specs.Origin.{Origin}
use Rattle.als_store.specs.Parts.{IsStored, stored_of}
use Rattle.als_store.specs.Events.{CanLend, LendsPage, NotLent, GivesBack, RecallsPage, NotShown}
use Rattle.als_store.specs.Events.{CanFlush, FlushesPage, BreaksFlush}
use Rattle.als_store.proofs.PoolSteps.{calm_lends, calm_gives, calm_recalls, calm_loads}
use Rattle.als_store.proofs.PoolSteps.{calm_refused, calm_show, raised}
use Rattle.als_store.proofs.StoredParts.{view-calm, view-steady, view-called, view-broken}
use Rattle.als_tables.specs.declared.commit_count.CommitCount.{CommitCount}

-- a page that was made resident had a frame, or could get one
room_of : (old made : Pooled) (page end : ℕ) (o : Option Framed) → frame_of old.frames page ≡ o
    → MatchOption o (Loads old made page end) (λ f. made ≡ old) → is_full old page ≡ false
room_of old made page end None is loads = has_frame old page loads.fetched.can
room_of old made page end (Some f) is same = resident_not_full old page f is

-- that uses no lease number
unspent_before : (old made : Pooled) (page end : ℕ) (o : Option Framed)
    → MatchOption o (Loads old made page end) (λ f. made ≡ old)
    → are_spent old ≡ are_spent made
unspent_before old made page end None loads = sym (ap (λ (v : Pooled). are_spent v) loads.same)
unspent_before old made page end (Some f) same = sym (ap (λ (v : Pooled). are_spent v) same)

-- so it is with one that could be made resident
room_for : (v : Pooled) (page end : ℕ) (o : Option Framed) → frame_of v.frames page ≡ o
    → MatchOption o ((content : PageState) × IsFetched v.frames page end content) (λ f. Unit {0})
    → is_full v page ≡ false
room_for v page end None is could = has_frame v page could.1.can
room_for v page end (Some f) is could = resident_not_full v page f is

-- ---- a lease that is out

-- the changes of a lease are the first of those that wait, so they are as many of them
taken_again : (waits : List Change) (n : ℕ) → take (length (take n waits)) waits ≡ take n waits
taken_again [] zero = refl
taken_again [] (suc n) = refl
taken_again (c ∷ waits) zero = refl
taken_again (c ∷ waits) (suc n) = ap (λ (cs : List Change). c ∷ cs) (taken_again waits n)

-- the lease of a page that was just lent is out
lent_out : (old new : Pooled) (page end : ℕ) (lease : Leased) → Lends old new page end lease
    → IsOutstanding new lease
lent_out old new page end lease l =
    let first = l.first in
    let at : lease.page ≡ page = ap (λ (x : Leased). x.page) first.lease_is in
    let waiting = pending_of l.loaded.waits page in
    let batch : lease.batch ≡ take 64 waiting = ap (λ (x : Leased). x.batch) first.lease_is in
    let waits : pending_of new.waits page ≡ waiting =
    ap (λ (v : Pooled). pending_of v.waits page) first.same in
    record {
      f = lent_frame (record { number = lease.number; count = length lease.batch })
          first.lends.f;
      resident = ap (λ (p : ℕ). frame_of new.frames p) at ∙ first.lends.sets.frame;
      lent = refl;
      base = sym (ap (λ (x : Leased). x.base) first.lease_is);
      batch = ap (λ (p : ℕ). take (length lease.batch) (pending_of new.waits p)) at
          ∙ ap (λ (cs : List Change). take (length lease.batch) cs) waits
          ∙ ap (λ (cs : List Change). take (length cs) waiting) batch
          ∙ taken_again waiting 64 ∙ sym batch;
    }

-- ---- what is due

due_now : (v : Pooled) (page : ℕ) (lsn : Lsn) → IsDueAt v page lsn → is_due (view_of v page) ≡ true
due_now v page lsn at =
    ap (λ (o : Option Framed). is_some o && not
    (nat_eq (written_or o (synced_lsn v.frames page)) (lsn_or o (synced_lsn v.frames page))))
    at.due.resident
    ∙ not_from_false (nat_eq at.f.written at.f.content.lsn)
    (ne_eqb at.f.written at.f.content.lsn at.due.due)

lsn_due : (v : Pooled) (page : ℕ) (lsn : Lsn) → IsDueAt v page lsn → (view_of v page).now ≡ lsn.0
lsn_due v page lsn at =
    ap (λ (o : Option Framed). lsn_or o (synced_lsn v.frames page)) at.due.resident ∙ sym at.lsn_is

not_behind : (v : Pooled) (page : ℕ) (lsn mark : Lsn) → IsDueAt v page lsn → lsn.0 < mark.0
    → is_behind (view_of v page) mark.0 ≡ false
not_behind v page lsn mark at lt =
    lt-leb mark.0 (view_of v page).now (omega (arith, lt, lsn_due v page lsn at))

behind_now : (v : Pooled) (page : ℕ) (mark : Lsn) → IsBehind v page mark
    → is_behind (view_of v page) mark.0 ≡ true
behind_now v page mark b =
    le-leb mark.0 (view_of v page).now (omega (arith, b.behind, lsn_due v page b.lsn b.due))

module _ (pages : ℕ) (held : CommitCount) (l : Local) (c : Controlled) (pool : Pooled)
    (validator : Validator) (broken : Bool) (origin : Origin) (recovering : Bool)
    (h : IsStored pages l held c pool validator broken origin recovering) where
  -- the store with other pages
  with_pool : Pooled → Stored
  with_pool pool' = stored_of pages l c pool' broken origin recovering

  -- ---- leases

  pub lent : (pool' : Pooled) (page : ℕ) (lease : Leased)
      → Lends pool pool' page (end_of l.log) lease
      → LendsPage (stored_of pages l c pool broken origin recovering) page lease
      (stored_of pages l c pool' broken origin recovering)
  lent pool' page lease a =
      let calm = calm_lends pool pool' page (end_of l.log) lease a in
      record {
        can = record {
          free = a.not_lent;
          waiting = something_waits pool page a.some;
          numbered = unspent_before pool a.loaded page (end_of l.log) (frame_of pool.frames page)
              a.resident ∙ ap (λ (o : Option ℕ). is_none o) a.first.unspent;
          room =
              room_of pool a.loaded page (end_of l.log) (frame_of pool.frames page) refl
              a.resident;
        };
        lends = a;
        out = lent_out pool pool' page (end_of l.log) lease a;
        after = view-steady pages held l c pool validator broken origin recovering h pool' calm.0
            calm.1;
      }

  pub given : (pool' : Pooled) (lease : Leased) → Gives pool pool' lease
      → GivesBack (stored_of pages l c pool broken origin recovering) lease
      (stored_of pages l c pool' broken origin recovering)
  given pool' lease g =
      let calm = calm_gives pool pool' lease g in record {
        gives = g;
        after = view-steady pages held l c pool validator broken origin recovering h pool' calm.0
            calm.1;
      }

  pub recalled : (pool' : Pooled) (page : ℕ) → Recalls pool pool' page
      → RecallsPage (stored_of pages l c pool broken origin recovering) page
      (stored_of pages l c pool' broken origin recovering)
  recalled pool' page r =
      let calm = calm_recalls pool pool' page r in record {
        lent = r.was_lent;
        recalls = r;
        after = view-steady pages held l c pool validator broken origin recovering h pool' calm.0
            calm.1;
      }

  same_store : (pool' : Pooled) → pool' ≡ pool
      → stored_of pages l c pool' broken origin recovering
      ≡ stored_of pages l c pool broken origin recovering
  same_store pool' is = ap (λ (v : Pooled). stored_of pages l c v broken origin recovering) is

  same_frames : (pool' : Pooled) (frames : Paged) → pool' ≡ record pool { frames = pool'.frames }
      → pool'.frames ≡ frames → pool' ≡ record pool { frames = frames }
  same_frames pool' frames is fe = is ∙ ap (λ (f : Paged). record pool { frames = f }) fe

  can_lend : (page : ℕ) → MayLend pool page → is_full pool page ≡ false
      → CanLend (stored_of pages l c pool broken origin recovering) page
  can_lend page may room = record {
    free = may.not_lent;
    waiting = something_waits pool page may.some;
    numbered = may.unspent;
    room = room;
  }

  pub refused : (reason : PoolFault) (room room' : Room) (pool' : Pooled) (page : ℕ)
      → RefusesLend reason (record { pool = pool; room = room })
      (record { pool = pool'; room = room' }) page (end_of l.log)
      → NotLent (stored_of pages l c pool broken origin recovering) page (of_pool reason)
      (stored_of pages l c pool' broken origin recovering)
  refused pool_fault.PageLent room room' pool' page r =
      inl (r.0, refl, same_store pool' (ap (λ (v : Held). v.pool) r.1))
  refused pool_fault.NothingToDo room room' pool' page r = elim r [
    | inl none ↦ inr (inl (
      none.0,
      inl ((nothing_waits pool page).1 none.1, refl),
      same_store pool' (ap (λ (v : Held). v.pool) none.2),
    ))
    | inr all ↦
        let calm = calm_loads pool pool' page (end_of l.log) all.1.loads in
        inr (inr (record {
          can = can_lend page all.0 (has_frame pool page all.1.loads.fetched.can);
          reads = record {
            finds = all.1;
            after =
                view-steady pages held l c pool validator broken origin recovering h pool'
                calm.0 calm.1;
          };
        }))
  ]
  refused pool_fault.NumbersSpent room room' pool' page r =
      inr (inl (
        r.0,
        inr (inl (something_waits pool page r.1, r.2, refl)),
        same_store pool' (ap (λ (v : Held). v.pool) r.3),
      ))
  refused pool_fault.PoolFull room room' pool' page r =
      inr (inl (
        r.0.not_lent,
        inr (inr (
          something_waits pool page r.0.some,
          r.0.unspent,
          (fullness pool page).1 r.1.refuses.0,
          refl,
        )),
        same_store pool' (same_frames pool' pool.frames r.1.same r.1.refuses.1),
      ))
  refused pool_fault.Device room room' pool' page r =
      let calm = calm_refused pool_fault.Device (record { pool = pool; room = room })
      (record { pool = pool'; room = room' }) page (end_of l.log) r in
      inr (inr (record {
        can = can_lend page r.0 (has_frame pool page r.1.refuses.0);
        reads = record {
          absent = frame_is_none pool page r.1.absent;
          failed = raised (l.failures + c.failures) pool.frames.failures pool'.frames.failures
              r.1.refuses.1.failed;
          counted = same_frames pool' (record pool.frames { failures = pool'.frames.failures })
              r.1.same r.1.refuses.1.same;
          after = view-calm pages held l c pool validator broken origin recovering h pool' calm.0;
        };
      }))
  refused (pool_fault.BadPage p) room room' pool' page r =
      inr (inr (record {
        can = can_lend page r.0 (has_frame pool page r.1.refuses.0);
        reads = record {
          number = r.1.refuses.1;
          absent = frame_is_none pool page r.1.absent;
          bad = r.1.refuses.2;
          after = same_store pool' (same_frames pool' pool.frames r.1.same r.1.refuses.3);
        };
      }))
  refused pool_fault.Memory room room' pool' page r =
      inr (inr (record {
        can = can_lend page r.0
            (room_for pool page (end_of l.log) (frame_of pool.frames page) refl r.1.can);
        reads = same_store pool' r.1.same;
      }))
  refused pool_fault.LogBehind room room' pool' page r = absurd r

  pub not_shown : (reason : PoolFault) (pool' : Pooled) (page : ℕ)
      → RefusesPage reason pool pool' page
      → NotShown (stored_of pages l c pool broken origin recovering) page (of_pool reason)
      (stored_of pages l c pool' broken origin recovering)
  not_shown pool_fault.Device pool' page r = record {
    refused = r;
    failed = raised (l.failures + c.failures) pool.frames.failures pool'.frames.failures
        r.refuses.failed;
    after = view-calm pages held l c pool validator broken origin recovering h pool'
        (calm_show pool pool' page r);
  }
  not_shown (pool_fault.BadPage p) pool' page r = record {
    number = r.refuses.0;
    bad = r.refuses.1;
    absent = frame_is_none pool page r.absent;
    after = same_store pool' (same_frames pool' pool.frames r.same r.refuses.2);
  }
  not_shown pool_fault.LogBehind pool' page r = absurd r
  not_shown pool_fault.PoolFull pool' page r = absurd r
  not_shown pool_fault.NothingToDo pool' page r = absurd r
  not_shown pool_fault.Memory pool' page r = absurd r
  not_shown pool_fault.PageLent pool' page r = absurd r
  not_shown pool_fault.NumbersSpent pool' page r = absurd r

  -- ---- images

  can_flush : (page : ℕ) (lsn : Lsn) → is_lent pool page ≡ false → IsDueAt pool page lsn
      → lsn.0 < c.synced.mark.0
      → CanFlush (stored_of pages l c pool broken origin recovering) page
  can_flush page lsn free at lt =
      record {
        free = free;
        due = due_now pool page lsn at;
        logged =
            not_behind pool page lsn c.synced.mark at lt;
      }

  pub flushed : (pool' : Pooled) (page : ℕ) → Flushes pool pool' page c.synced.mark
      → FlushesPage (stored_of pages l c pool broken origin recovering) page
      (stored_of pages l c pool' broken origin recovering)
  flushed pool' page f = record {
    can = can_flush page f.lsn f.not_lent f.due f.logged;
    flushes = f;
    after = view-called pages held l c pool validator broken origin recovering h pool'
        (ap (λ (v : Paged). v.failures) f.stores.writes.same)
        (ap (λ (v : Paged). v.attempts) f.stores.writes.same);
  }

  pub flush_failed : (pool' : Pooled) (page : ℕ) → is_lent pool page ≡ false
      → FlushFails pool pool' page c.synced.mark
      → BreaksFlush (stored_of pages l c pool broken origin recovering) page
      (stored_of pages l c pool' true origin recovering)
  flush_failed pool' page free f = record {
    can = can_flush page f.lsn free f.due f.logged;
    fails = f;
    failed = raised (l.failures + c.failures) pool.frames.failures pool'.frames.failures
        f.fails.failed;
    after = view-broken pages held l c pool validator broken origin recovering h pool'
        (ap (λ (v : Paged). v.attempts) f.fails.same);
  }

  pub flush_lent : (pool' : Pooled) (page : ℕ) → (is_lent pool page ≡ true) × (pool' ≡ pool)
      → (is_lent pool page ≡ true)
      × (stored_of pages l c pool' broken origin recovering
      ≡ stored_of pages l c pool broken origin recovering)
  flush_lent pool' page r = (r.0, same_store pool' r.1)

  pub nothing_flushed : (pool' : Pooled) (page : ℕ)
      → (is_lent pool page ≡ false) × NothingIsDue pool.frames page × (pool' ≡ pool)
      → (is_lent pool page ≡ false) × (is_due (view_of pool page) ≡ false)
      × (stored_of pages l c pool' broken origin recovering
      ≡ stored_of pages l c pool broken origin recovering)
  nothing_flushed pool' page r = (r.0, (nothing_due pool page).1 r.1, same_store pool' r.2)

  pub flush_behind : (pool' : Pooled) (page : ℕ)
      → (is_lent pool page ≡ false) × IsBehind pool page c.synced.mark × (pool' ≡ pool)
      → (is_lent pool page ≡ false) × (is_due (view_of pool page) ≡ true)
      × (is_behind (view_of pool page) c.synced.mark.0 ≡ true)
      × (stored_of pages l c pool' broken origin recovering
      ≡ stored_of pages l c pool broken origin recovering)
  flush_behind pool' page r = (
    r.0,
    due_now pool page r.1.lsn r.1.due,
    behind_now pool page c.synced.mark r.1,
    same_store pool' r.2,
  )
