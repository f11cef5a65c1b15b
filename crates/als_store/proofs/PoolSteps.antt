-- What each call of the pool leaves: how many pages there are, how many changes wait, and what the
-- devices counted.
use Rattle.std.proofs.Common.{◌≡◌, ℕ, zero, suc, ◌+◌, ◌<◌, ◌≤◌, Bool, List, [], ◌∷◌, length, filter}
use Rattle.std.proofs.Common.{drop, Option, Some, None, refl, sym, ap, subst, ◌∙◌, inl, inr, arith}
use Rattle.std.proofs.Common.{length-drop, length-set}
use Rattle.std.specs.Prelude.{◌++◌, not, slice_set, IfSome, MatchOption}
use Rattle.std.proofs.lemmas.Bool.{cases_lt}
use Rattle.std.proofs.lemmas.List.Filters.{length-filter_both}
use Rattle.std.proofs.Common.{length-append}
use Rattle.als_record.specs.declared.change.Change.{Change}
use Rattle.als_lease.specs.Lease.{Leased}
use Rattle.als_frames.specs.Frames.{Framed, Paged, frame_of}
use Rattle.als_pool.specs.declared.fault.Fault.{Fault as PoolFault}
use Rattle.als_pool.specs.declared.fault.Fault.TheVariants as pool_fault
use Rattle.als_pool.specs.Queues.{pending_of, total_waiting, above}
use Rattle.als_pool.specs.Pooled.{Pooled, Held}
use Rattle.als_pool.specs.Outcomes.{Loads, MakesResident, Lends, RefusesLend, Gives, Recalls}
use Rattle.als_pool.specs.Outcomes.{CanRoute}
use Rattle.als_pool.proofs.QueueLists.{total-set}
use Rattle.als_frames.specs.declared.fault.Fault.TheVariants.{Device as DiskFailed}
use Rattle.als_pool.specs.Outcomes.{ReadRefused}
use Rattle.als_store.specs.declared.fault.Fault.TheVariants as fault
use Rattle.als_store.specs.Faults.{of_pool}
use Rattle.als_store.specs.Stored.{routed}

-- by the fault: the device's failures rose, or they did not
abbrev pub Counts : PoolFault → ℕ → ℕ → Type 0
Counts pool_fault.Device before now = before < now
Counts pool_fault.LogBehind before now = now ≡ before
Counts pool_fault.PoolFull before now = now ≡ before
Counts pool_fault.NothingToDo before now = now ≡ before
Counts pool_fault.Memory before now = now ≡ before
Counts (pool_fault.BadPage page) before now = now ≡ before
Counts pool_fault.PageLent before now = now ≡ before
Counts pool_fault.NumbersSpent before now = now ≡ before

-- of a pool after a call that writes nothing and syncs nothing
pub record IsCalm (old new : Pooled) : Type 0 where
  pub count : length new.waits ≡ length old.waits
  pub few : total_waiting new.waits ≤ total_waiting old.waits
  pub attempts : new.frames.attempts ≡ old.frames.attempts
  pub sure : new.frames.sure ≡ old.frames.sure

pub calm_same : (v : Pooled) → IsCalm v v
calm_same v = record { count = refl; few = omega arith; attempts = refl; sure = refl }

pub calm_twice : (a b c : Pooled) → IsCalm a b → IsCalm b c → IsCalm a c
calm_twice a b c p q =
    record {
      count = q.count ∙ p.count;
      few = omega (arith, p.few, q.few);
      attempts =
          q.attempts ∙ p.attempts;
      sure = q.sure ∙ p.sure;
    }

-- a page for which no more changes wait than before
set_past : (waits : List (List Change)) (page : ℕ) (new : List Change) → length waits ≤ page
    → slice_set waits page new ≡ waits
set_past [] page new le = refl
set_past (q ∷ waits) zero new le = absurd (omega (arith, le))
set_past (q ∷ waits) (suc page) new le =
    ap (λ (w : List (List Change)). q ∷ w) (set_past waits page new (omega (arith, le)))

few-set : (waits : List (List Change)) (page : ℕ) (new : List Change)
    → length new ≤ length (pending_of waits page)
    → total_waiting (slice_set waits page new) ≤ total_waiting waits
few-set waits page new le = elim (cases_lt page (length waits)) [
  | inl lt ↦ omega (arith, le, total-set waits page new lt)
  | inr past ↦ omega (arith, ap total_waiting (set_past waits page new past))
]

fewer_above : (test : Change → Bool) (cs : List Change) → length (filter test cs) ≤ length cs
fewer_above test cs = omega (arith, length-filter_both test (λ c. not (test c)) (λ c. refl) cs)

pub calm_loads : (old new : Pooled) (page end : ℕ) → Loads old new page end
    → IsCalm old new × (new.frames.failures ≡ old.frames.failures)
calm_loads old new page end l = (
  record {
    count = ap (λ (v : Pooled). length v.waits) l.same
        ∙ length-set old.waits page (above l.content.lsn (pending_of old.waits page));
    few = omega (
      arith,
      ap (λ (v : Pooled). total_waiting v.waits) l.same,
      few-set old.waits page
          (above l.content.lsn (pending_of old.waits page))
          (fewer_above _ (pending_of old.waits page)),
    );
    attempts = ap (λ (v : Paged). v.attempts) l.puts.same;
    sure = ap (λ (v : Paged). v.sure) l.puts.same;
  },
  ap (λ (v : Paged). v.failures) l.puts.same,
)

calm_resident : (old new : Pooled) (page end : ℕ) (f : Option Framed) → frame_of old.frames page ≡ f
    → MakesResident old new page end → IsCalm old new × (new.frames.failures ≡ old.frames.failures)
calm_resident old new page end None e made =
    calm_loads old new page end
    (subst (λ (o : Option Framed). MatchOption o (Loads old new page end) (λ f. new ≡ old)) e
    made)
calm_resident old new page end (Some f) e made =
    let same : new ≡ old =
    subst (λ (o : Option Framed). MatchOption o (Loads old new page end) (λ f. new ≡ old)) e
    made in (
      subst (λ (v : Pooled). IsCalm old v) (sym same) (calm_same old),
      ap
          (λ (v : Pooled). v.frames.failures) same,
    )

-- a pool of which the frames alone changed
pub calm_frames : (old new : Pooled) → new ≡ record old { frames = new.frames }
    → new.frames.attempts ≡ old.frames.attempts → new.frames.sure ≡ old.frames.sure → IsCalm old new
calm_frames old new same attempts sure = record {
  count = ap (λ (v : Pooled). length v.waits) same;
  few = omega (arith, ap (λ (v : Pooled). total_waiting v.waits) same);
  attempts = attempts;
  sure = sure;
}

pub calm_lends : (old new : Pooled) (page end : ℕ) (lease : Leased) → Lends old new page end lease
    → IsCalm old new × (new.frames.failures ≡ old.frames.failures)
calm_lends old new page end lease l =
    let first = calm_resident old l.loaded page end (frame_of old.frames page) refl l.resident in
    let second : IsCalm l.loaded new = record {
      count = ap (λ (v : Pooled). length v.waits) l.first.same;
      few = omega (arith, ap (λ (v : Pooled). total_waiting v.waits) l.first.same);
      attempts = ap (λ (v : Paged). v.attempts) l.first.lends.same;
      sure = ap (λ (v : Paged). v.sure) l.first.lends.same;
    } in (
      calm_twice old l.loaded new first.0 second,
      ap (λ (v : Paged). v.failures) l.first.lends.same ∙ first.1,
    )

pub calm_gives : (old new : Pooled) (lease : Leased) → Gives old new lease
    → IsCalm old new × (new.frames.failures ≡ old.frames.failures)
calm_gives old new lease g =
    let left = drop lease.done (pending_of old.waits lease.page) in (
      record {
        count = ap (λ (v : Pooled). length v.waits) g.same
            ∙ length-set old.waits lease.page left;
        few = omega (
          arith,
          ap (λ (v : Pooled). total_waiting v.waits) g.same,
          few-set old.waits lease.page left
              (omega (arith, length-drop lease.done (pending_of old.waits lease.page))),
        );
        attempts = ap (λ (v : Paged). v.attempts) g.takes_back.same;
        sure = ap (λ (v : Paged). v.sure) g.takes_back.same;
      },
      ap (λ (v : Paged). v.failures) g.takes_back.same,
    )

pub calm_recalls : (old new : Pooled) (page : ℕ) → Recalls old new page
    → IsCalm old new × (new.frames.failures ≡ old.frames.failures)
calm_recalls old new page r = (
  calm_frames old new r.same (ap (λ (v : Paged). v.attempts) r.recalls.same)
      (ap (λ (v : Paged). v.sure) r.recalls.same),
  ap (λ (v : Paged). v.failures) r.recalls.same,
)

-- the pool is as it was
equal : (old new : Pooled) → new ≡ old
    → IsCalm old new × (new.frames.failures ≡ old.frames.failures)
equal old new e = (
  subst (λ (v : Pooled). IsCalm old v) (sym e) (calm_same old),
  ap
      (λ (v : Pooled). v.frames.failures) e,
)

pub calm_refused : (reason : PoolFault) (old new : Held) (page end : ℕ)
    → RefusesLend reason old new page end → IsCalm old.pool new.pool
    × Counts reason old.pool.frames.failures new.pool.frames.failures
calm_refused pool_fault.PageLent old new page end r =
    equal old.pool new.pool (ap (λ (h : Held). h.pool) r.1)
calm_refused pool_fault.NothingToDo old new page end r = elim r [
  | inl none ↦ equal old.pool new.pool (ap (λ (h : Held). h.pool) none.2)
  | inr all ↦ calm_loads old.pool new.pool page end all.1.loads
]
calm_refused pool_fault.NumbersSpent old new page end r =
    equal old.pool new.pool (ap (λ (h : Held). h.pool) r.3)
calm_refused pool_fault.PoolFull old new page end r =
    let e = r.1.refuses.1 in (
      calm_frames old.pool new.pool r.1.same (ap (λ (v : Paged). v.attempts) e)
          (ap (λ (v : Paged). v.sure) e),
      ap (λ (v : Paged). v.failures) e,
    )
calm_refused pool_fault.Device old new page end r =
    let e = r.1.refuses.1.same in (
      calm_frames old.pool new.pool r.1.same (ap (λ (v : Paged). v.attempts) e)
          (ap (λ (v : Paged). v.sure) e),
      r.1.refuses.1.failed,
    )
calm_refused (pool_fault.BadPage p) old new page end r =
    let e = r.1.refuses.3 in (
      calm_frames old.pool new.pool r.1.same (ap (λ (v : Paged). v.attempts) e)
          (ap (λ (v : Paged). v.sure) e),
      ap (λ (v : Paged). v.failures) e,
    )
calm_refused pool_fault.Memory old new page end r = equal old.pool new.pool r.1.same
calm_refused pool_fault.LogBehind old new page end r = absurd r

-- a record more
pub routed_count : (pool : Pooled) (change : Option Change) → IfSome change (CanRoute pool)
    → (length (routed pool change).waits ≡ length pool.waits)
    × (total_waiting (routed pool change).waits ≤ total_waiting pool.waits + 1)
    × ((routed pool change).frames ≡ pool.frames)
routed_count pool None can = (refl, omega arith, refl)
routed_count pool (Some c) can =
    let more = pending_of pool.waits c.key.page ++ c ∷ [] in (
      length-set pool.waits c.key.page more,
      omega (
        arith,
        total-set pool.waits c.key.page more can.in_range,
        length-append
            (pending_of pool.waits c.key.page) (c ∷ []),
      ),
      refl,
    )

-- ---- faults

pub bad_page_from : (reason : PoolFault) (page : ℕ) → of_pool reason ≡ fault.BadPage page
    → reason ≡ pool_fault.BadPage page
bad_page_from pool_fault.LogBehind page e = absurd cc
bad_page_from pool_fault.PoolFull page e = absurd cc
bad_page_from pool_fault.NothingToDo page e = absurd cc
bad_page_from pool_fault.Device page e = absurd cc
bad_page_from pool_fault.Memory page e = absurd cc
bad_page_from pool_fault.PageLent page e = absurd cc
bad_page_from pool_fault.NumbersSpent page e = absurd cc
bad_page_from (pool_fault.BadPage p) page e = let same : p ≡ page = cc in ap pool_fault.BadPage same

pub calm_show : (old new : Pooled) (page : ℕ) → ReadRefused DiskFailed old new page → IsCalm old new
calm_show old new page r =
    let e = r.refuses.same in calm_frames old new r.same (ap (λ (v : Paged). v.attempts) e)
    (ap (λ (v : Paged). v.sure) e)

pub raised : (others before now : ℕ) → before < now → others + before < others + now
raised others before now lt = omega (arith, lt)
