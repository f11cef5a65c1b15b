-- What lending a page, giving it back and recalling it change: the mark of a lease, or what is redone.
use Rattle.std.proofs.Common.{◌≡◌, ℕ, ◌<◌, ◌≤◌, List, [], ◌∷◌, length, take, drop, Option, Some, None, refl, sym, ap, subst, ◌∙◌, arith}
use Rattle.std.specs.Prelude.{slice_set, MatchOption, IsSome}
use Rattle.std.proofs.lemmas.Option.{same_Some}
use Rattle.std.proofs.lemmas.List.{take-take, take-append-drop, length-take}
use Rattle.als_record.specs.declared.change.Change.{Change}
use Rattle.als_record.specs.Pages.{PageState, redone}
use Rattle.als_frames.specs.declared.lent.Lent.{Lent}
use Rattle.als_frames.specs.Frames.{Framed, Paged, frame_of}
use Rattle.als_frames.specs.Outcomes.{SetsFrame, IsFetched}
use Rattle.als_page.specs.Changes.{AreNext, redone_all}
use Rattle.als_lease.specs.Lease.{Leased, IsLease, working_of, lease_for}
use Rattle.als_lease.specs.Numbers.{next_number}
use Rattle.als_frames.specs.Leases.{CanTakeBack, Lends as FrameLends, TakesBack as FrameTakesBack, Recalls as FrameRecalls}
use Rattle.als_pool.proofs.Waiting.{next_front}
use Rattle.als_pool.specs.Queues.{pending_of}
use Rattle.als_pool.specs.Pooled.{Pooled}
use Rattle.als_pool.specs.Outcomes.{LendsFirst, IsOutstanding, Gives, Recalls, CanBeResident}
use Rattle.als_pool.proofs.QueueLists.{some_inside}

-- The lease of a page begins or ends; its content, and all else but the numbers, stay.
pub record Marks (old new : Pooled) (page : ℕ) : Type 0 where
  pub f : Framed
  pub lent : Option Lent
  pub resident : frame_of old.frames page ≡ Some f
  pub sets : SetsFrame old.frames new.frames page (record f { lent = lent })
  pub framed : new.frames ≡ record old.frames { frames = new.frames.frames }
  pub same : new ≡ record old { frames = new.frames; next = new.next }

-- So many of the first changes that wait for a page are redone.
pub record Redoes (old new : Pooled) (page count : ℕ) : Type 0 where
  pub f : Framed
  pub inside : page < length old.waits
  pub resident : frame_of old.frames page ≡ Some f
  pub sets : SetsFrame old.frames new.frames page (record f { content = redone_all f.content (take count (pending_of old.waits page)); lent = None })
  pub framed : new.frames ≡ record old.frames { frames = new.frames.frames }
  pub same : new ≡ record old { frames = new.frames; waits = slice_set old.waits page (drop count (pending_of old.waits page)) }

pub lends-marks : (old new : Pooled) (page : ℕ) (lease : Leased) → LendsFirst old new page lease → Marks old new page
lends-marks old new page lease done = record {
  f = done.lends.f;
  lent = Some (record { number = lease.number; count = length lease.batch });
  resident = done.lends.resident;
  sets = done.lends.sets;
  framed = done.lends.same;
  same = done.same ∙ ap (λ (n : Option ℕ). record old { frames = new.frames; next = n }) (sym (ap (λ (v : Pooled). v.next) done.same));
}

-- by what it is lent then
pub lends-lent : (old new : Pooled) (page : ℕ) (lease : Leased) (done : LendsFirst old new page lease) → (lends-marks old new page lease done).lent ≡ Some (record { number = lease.number; count = length lease.batch })
unfolding lends-marks
lends-lent old new page lease done = refl

pub recalls-marks : (old new : Pooled) (page : ℕ) → Recalls old new page → Marks old new page
recalls-marks old new page done = record {
  f = done.recalls.f;
  lent = None;
  resident = done.recalls.resident;
  sets = done.recalls.sets;
  framed = done.recalls.same;
  same = done.same ∙ ap (λ (n : Option ℕ). record old { frames = new.frames; next = n }) (sym (ap (λ (v : Pooled). v.next) done.same));
}

some-first : (n : ℕ) (w : List Change) → 0 < length (take n w) → w ≡ [] → ⊥
some-first n w lt none = omega (arith, lt, length-take n w, ap (λ (cs : List Change). length cs) none)

-- the changes of a lease that is out wait
pub gives-inside : (old new : Pooled) (lease : Leased) → Gives old new lease → lease.page < length old.waits
gives-inside old new lease done =
    some_inside old.waits lease.page (some-first (length lease.batch) (pending_of old.waits lease.page)
    (omega (arith, done.is_lease.some, ap (λ (cs : List Change). length cs) done.outstanding.batch)))

-- what a lease that is out has made of its page is what redo of the changes that wait makes of it
pub gives-content : (old new : Pooled) (lease : Leased) → (done : Gives old new lease) → (f : Framed) → frame_of old.frames lease.page ≡ Some f
    → working_of lease ≡ redone_all f.content (take lease.done (pending_of old.waits lease.page))
gives-content old new lease done f is =
    let w = pending_of old.waits lease.page in
    let out = done.outstanding in
    let base : lease.base ≡ f.content = sym out.base ∙ ap (λ (g : Framed). g.content) (same_Some out.f f (sym out.resident ∙ is)) in
    let front : take lease.done lease.batch ≡ take lease.done w
    = ap (λ (cs : List Change). take lease.done cs) (sym out.batch) ∙ take-take lease.done (length lease.batch) w done.is_lease.within in
    ap (λ (s : PageState). redone_all s (take lease.done lease.batch)) base ∙ ap (λ (cs : List Change). redone_all f.content cs) front

pub gives-redoes : (old new : Pooled) (lease : Leased) → Gives old new lease → Redoes old new lease.page lease.done
gives-redoes old new lease done =
    let f = done.takes_back.f in
    let made = gives-content old new lease done f done.takes_back.resident in
    record {
      f = f;
      inside = gives-inside old new lease done;
      resident = done.takes_back.resident;
      sets = subst (λ (s : PageState). SetsFrame old.frames new.frames lease.page (record f { content = s; lent = None })) made done.takes_back.sets;
      framed = done.takes_back.same;
      same = done.same;
    }

-- a page that has no frame could be read
pub can_be : (v : Pooled) (page end : ℕ) (content : PageState) → frame_of v.frames page ≡ None → IsFetched v.frames page end content → CanBeResident v page end
can_be v page end content absent fetched =
    subst (λ (o : Option Framed). MatchOption o ((s : PageState) × IsFetched v.frames page end s) (λ f. Unit {0})) (sym absent) (content, fetched)

-- a resident one needs no read
pub is_resident : (v : Pooled) (page end : ℕ) → IsSome (frame_of v.frames page) → CanBeResident v page end
is_resident v page end some = with_frame (frame_of v.frames page) some
  where
    with_frame : (o : Option Framed) → IsSome o → MatchOption o ((s : PageState) × IsFetched v.frames page end s) (λ f. Unit {0})
    with_frame None some = absurd cc
    with_frame (Some f) some = tt

-- a resident page was lent by the next number, with the first changes that wait for it
pub lends_first : (old : Pooled) (frames : Paged) (next : Option ℕ) (page number id : ℕ) (base : PageState) (waiting batch : List Change) (lease : Leased)
    → old.next ≡ Some number → next ≡ next_number old.next → (pending_of old.waits page ≡ [] → ⊥) → lease ≡ lease_for number id base waiting → id ≡ page
    → ((f : Framed) → frame_of old.frames page ≡ Some f → base ≡ f.content) → waiting ≡ pending_of old.waits page → batch ≡ lease.batch
    → FrameLends old.frames frames page (record { number = number; count = length batch }) → LendsFirst old (record old { frames = frames; next = next }) page lease
lends_first old frames next page number id base waiting batch lease unspent drawn some is ids bases waits batches done =
    let own : number ≡ lease.number = sym (ap (λ (l : Leased). l.number) is) in
    let lends : FrameLends old.frames frames page (record { number = lease.number; count = length lease.batch })
    = subst (λ (n : ℕ). FrameLends old.frames frames page (record { number = n; count = length lease.batch })) own
    (subst (λ (cs : List Change). FrameLends old.frames frames page (record { number = number; count = length cs })) batches done) in
    record {
      unspent = unspent ∙ ap (λ (n : ℕ). Some n) own;
      left = some;
      lends = lends;
      lease_is = is ∙ (λ j. lease_for (own j) (ids j) (bases lends.f lends.resident j) (waits j));
      same = λ j. record old { frames = frames; next = drawn j };
    }

-- the page_LSN of a page does not fall while changes of it are redone
redone_rises : (page : ℕ) (s : PageState) (changes : List Change) → AreNext page s.lsn changes → s.lsn ≤ (redone_all s changes).lsn
redone_rises page s [] next = omega arith
redone_rises page s (c ∷ cs) next = omega (arith, next.3, redone_rises page (redone s c) cs next.4)

pub lease_rises : (lease : Leased) → IsLease lease → lease.base.lsn ≤ (working_of lease).lsn
lease_rises lease is =
    let front : List Change = take lease.done lease.batch in
    let rest : List Change = drop lease.done lease.batch in
    redone_rises lease.page lease.base front (next_front lease.page lease.base.lsn front rest
    (subst (λ (cs : List Change). AreNext lease.page lease.base.lsn cs) (sym (take-append-drop lease.done lease.batch)) is.next))

-- the page of a lease that is out can be taken back
pub can_take : (v : Pooled) (page : ℕ) (content : PageState) (lease : Leased) → IsLease lease → IsOutstanding v lease → page ≡ lease.page → content ≡ working_of lease → CanTakeBack v.frames page content
can_take v page content lease is out at made = record {
  is_lent = record { f = out.f; lent = _; resident = ap (λ (n : ℕ). frame_of v.frames n) at ∙ out.resident; is = out.lent };
  newer = omega (arith, lease_rises lease is, ap (λ (s : PageState). s.lsn) out.base, ap (λ (s : PageState). s.lsn) made);
}

-- it was taken back, and what is redone waits no more
pub gives_back : (old : Pooled) (frames : Paged) (waits : List (List Change)) (page count : ℕ) (content : PageState) (lease : Leased) → IsLease lease → IsOutstanding old lease
    → page ≡ lease.page → count ≡ lease.done → content ≡ working_of lease → FrameTakesBack old.frames frames page content
    → waits ≡ slice_set old.waits page (drop count (pending_of old.waits page)) → Gives old (record old { frames = frames; waits = waits }) lease
gives_back old frames waits page count content lease is out at counted made takes left = record {
  is_lease = is;
  outstanding = out;
  takes_back = subst (λ (n : ℕ). FrameTakesBack old.frames frames n (working_of lease)) at (subst (λ (s : PageState). FrameTakesBack old.frames frames page s) made takes);
  same = ap (λ (ws : List (List Change)). record old { frames = frames; waits = ws })
      (left ∙ (λ j. slice_set old.waits (at j) (drop (counted j) (pending_of old.waits (at j)))));
}

-- a page is no longer lent
pub recall_marks : (old : Pooled) (frames : Paged) (page : ℕ) → FrameRecalls old.frames frames page → Marks old (record old { frames = frames }) page
recall_marks old frames page done = record { f = done.f; lent = None; resident = done.resident; sets = done.sets; framed = done.same; same = refl }

none_is : (l : Lent) → None ≡ Some l → ⊥
none_is l is = cc

pub recall-lent : (old : Pooled) (frames : Paged) (page : ℕ) (done : FrameRecalls old.frames frames page) (l : Lent) → (recall_marks old frames page done).lent ≡ Some l → ⊥
unfolding recall_marks
recall-lent old frames page done l is = none_is l is
