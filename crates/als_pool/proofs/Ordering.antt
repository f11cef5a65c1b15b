-- What waits for a page can be redone, as pages are read in, lent and taken back, and more changes come.
use Rattle.std.proofs.Common.{◌≡◌, ◌≢◌, ◌⊎◌, ℕ, ◌<◌, ◌≤◌, List, [], ◌∷◌, ◌++◌, length, take, drop, Option, Some, None, refl, sym, ap, subst, ◌∙◌, inl, inr, length-set, length-append, arith}
use Rattle.std.specs.Prelude.{slice_set, IsSome, is_some, false}
use Rattle.std.proofs.lemmas.Bool.{cases_eq, cases_lt}
use Rattle.std.specs.Option.{option_map}
use Rattle.std.proofs.lemmas.Option.{same_Some}
use Rattle.std.proofs.lemmas.List.{get_or-set_same, get_or-set_other, take-append-drop, length-take}
use Rattle.als_record.specs.declared.lsn.Lsn.{Lsn}
use Rattle.als_record.specs.declared.change.Change.{Change}
use Rattle.als_record.specs.Pages.{PageState, lsn_after}
use Rattle.als_record.proofs.PageLaws.{lsn-fold}
use Rattle.als_frames.specs.Frames.{Framed, Paged, clean_frame, frame_of}
use Rattle.als_frames.specs.Images.{lsn_or}
use Rattle.als_frames.specs.declared.fault.Fault.{Fault as FramesFault}
use Rattle.als_frames.specs.declared.fault.Fault.TheVariants.{PoolFull as FullFrames, NothingToDo as NoFrame, Device as DiskFailed, Memory as NoRoom, BadPage as NoPage}
use Rattle.als_frames.specs.Outcomes.{PutsIn, IsReplaced, RefusesReading, RefusesWrite, Writes, Syncs, SyncFails, synced_frame}
use Rattle.als_page.specs.Changes.{AreNext}
use Rattle.als_page.specs.Changes.{redone_all}
use Rattle.als_frames.specs.declared.lent.Lent.{Lent}
use Rattle.als_lease.specs.Lease.{Leased}
use Rattle.als_dirty.specs.declared.dirty_page.DirtyPage.{DirtyPage}
use Rattle.als_lease.specs.Queue.{count_up_to}
use Rattle.als_pool.specs.Queues.{pending_of, total_waiting, above}
use Rattle.als_pool.specs.Refusals.{is_lent}
use Rattle.als_frames.specs.Leases.{lent_in}
use Rattle.als_frames.proofs.LeaseCounts.{count_unlent}
use Rattle.als_pool.proofs.QueueLists.{total-set, nothing_past}
use Rattle.als_pool.specs.Pooled.{Pooled, WaitsInOrder, IsLentWith, IsPooled, leases_of}
use Rattle.als_pool.specs.Outcomes.{CanRoute}
use Rattle.als_pool.proofs.LeaseSteps.{Marks, Redoes}
use Rattle.als_pool.proofs.Waiting.{drop-above, next-above, next_lower, next_behind, next_front}

-- a page is in a frame, or in none
pub cases_frame : (o : Option Framed) → (o ≡ None) ⊎ ((f : Framed) × (o ≡ Some f))
cases_frame None = inl refl
cases_frame (Some f) = inr (f, refl)

pub the_frame : (o : Option Framed) → IsSome o → (f : Framed) × (o ≡ Some f)
the_frame None some = absurd cc
the_frame (Some f) some = (f, refl)

-- the changes of the lease of a page, if it is lent, wait
abbrev pub LeasesWait : Option Framed → List Change → Type 0
LeasesWait o w = (f : Framed) (l : Lent) → o ≡ Some f → f.lent ≡ Some l → IsLentWith l w

no_lease : (f : Framed) (l : Lent) → f.lent ≡ None → f.lent ≡ Some l → ⊥
no_lease f l none is = let no' : None ≡ Some l = sym none ∙ is in absurd cc

-- a frame whose page is not lent
pub none_waits_for : (o : Option Framed) (f : Framed) (w : List Change) → o ≡ Some f → f.lent ≡ None → LeasesWait o w
none_waits_for o f w is none g l is' lent = absurd (no_lease f l none (ap (λ (x : Framed). x.lent) (same_Some f g (sym is ∙ is')) ∙ lent))

-- the queue of a page becomes another one, and what waits for the others can be redone
pub pooled-set : (old new : Pooled) (page : ℕ) (w : List Change) → page < length old.waits → new.frames.pages ≡ old.frames.pages → length new.dirty ≡ length old.dirty → length new.unread ≡ length old.unread
    → new.waits ≡ slice_set old.waits page w → WaitsInOrder new.frames page w → ((other : ℕ) → other < length old.waits → other ≢ page → WaitsInOrder new.frames other (pending_of old.waits other))
    → LeasesWait (frame_of new.frames page) w → ((other : ℕ) → other ≢ page → LeasesWait (frame_of new.frames other) (pending_of old.waits other))
    → IsPooled old → IsPooled new
pooled-set old new page w inside pages rows told is here others lent lents h =
    let len : length new.waits ≡ length old.waits = ap length is ∙ length-set old.waits page w in
    record {
      paged = pages ∙ h.paged ∙ sym len;
      tabled = rows ∙ h.tabled ∙ sym len;
      told = told ∙ h.told ∙ sym len;
      ordered = λ p lt. subst (λ (ws : List (List Change)). WaitsInOrder new.frames p (pending_of ws p)) (sym is) (elim (cases_eq p page) [
        | inl same ↦
            subst (λ k. WaitsInOrder new.frames k (pending_of (slice_set old.waits page w) k)) (sym same)
            (subst (λ (x : List Change). WaitsInOrder new.frames page x) (sym (get_or-set_same old.waits page w [] inside)) here)
        | inr ne ↦
            subst (λ (x : List Change). WaitsInOrder new.frames p x) (sym (get_or-set_other old.waits page p w [] ne)) (others p (omega (arith, lt, len)) ne)
      ]);
      lent = λ p. subst (λ (ws : List (List Change)). LeasesWait (frame_of new.frames p) (pending_of ws p)) (sym is) (elim (cases_eq p page) [
        | inl same ↦
            subst (λ k. LeasesWait (frame_of new.frames k) (pending_of (slice_set old.waits page w) k)) (sym same)
            (subst (λ (x : List Change). LeasesWait (frame_of new.frames page) x) (sym (get_or-set_same old.waits page w [] inside)) lent)
        | inr ne ↦
            subst (λ (x : List Change). LeasesWait (frame_of new.frames p) x) (sym (get_or-set_other old.waits page p w [] ne)) (lents p ne)
      ]);
    }

-- the frames alone have changed, and each page has its page_LSN and its lease
pub pooled-frames : (old new : Pooled) → new.frames.pages ≡ old.frames.pages → length new.dirty ≡ length old.dirty → new.waits ≡ old.waits → new.unread ≡ old.unread
    → ((p : ℕ) → lsn_or (frame_of new.frames p) 0 ≡ lsn_or (frame_of old.frames p) 0) → ((p : ℕ) → LeasesWait (frame_of new.frames p) (pending_of old.waits p)) → IsPooled old → IsPooled new
pooled-frames old new pages rows waits told lsns lents h =
    let len : length new.waits ≡ length old.waits = ap length waits in
    record {
      paged = pages ∙ h.paged ∙ sym len;
      tabled = rows ∙ h.tabled ∙ sym len;
      told = ap length told ∙ h.told ∙ sym len;
      ordered = λ p lt. subst (λ (ws : List (List Change)). WaitsInOrder new.frames p (pending_of ws p)) (sym waits)
          (subst (λ (n : ℕ). AreNext p n (pending_of old.waits p)) (sym (lsns p)) (h.ordered p (omega (arith, lt, len))));
      lent = λ p. subst (λ (ws : List (List Change)). LeasesWait (frame_of new.frames p) (pending_of ws p)) (sym waits) (lents p);
    }

-- and each page has the very frame that it had
pub pooled-same : (old : Pooled) (frames : Paged) → frames.pages ≡ old.frames.pages → ((p : ℕ) → frame_of frames p ≡ frame_of old.frames p) → IsPooled old → IsPooled (record old { frames = frames })
pooled-same old frames pages same h =
    pooled-frames old (record old { frames = frames }) pages refl refl refl (λ p. ap (λ (o : Option Framed). lsn_or o 0) (same p))
    (λ p. subst (λ (o : Option Framed). LeasesWait o (pending_of old.waits p)) (sym (same p)) (h.lent p)) h

-- ---- reads, writes and syncs

pub pooled-reading : (e : FramesFault) (old : Pooled) (frames : Paged) (page : ℕ) → RefusesReading e old.frames frames page → IsPooled old → IsPooled (record old { frames = frames })
pooled-reading DiskFailed old frames page r h = pooled-same old frames (ap (λ (v : Paged). v.pages) r.same) (λ p. ap (λ (v : Paged). frame_of v p) r.same) h
pooled-reading (NoPage q) old frames page r h = pooled-same old frames (ap (λ (v : Paged). v.pages) r.2) (λ p. ap (λ (v : Paged). frame_of v p) r.2) h
pooled-reading FullFrames old frames page r h = absurd r
pooled-reading NoRoom old frames page r h = absurd r
pooled-reading NoFrame old frames page r h = absurd r

pub pooled-refused_write : (e : FramesFault) (old : Pooled) (frames : Paged) (page : ℕ) → RefusesWrite e old.frames frames page → IsPooled old → IsPooled (record old { frames = frames })
pooled-refused_write NoFrame old frames page r h = pooled-same old frames (ap (λ (v : Paged). v.pages) r.1) (λ p. ap (λ (v : Paged). frame_of v p) r.1) h
pooled-refused_write DiskFailed old frames page r h = pooled-same old frames (ap (λ (v : Paged). v.pages) r.same) (λ p. ap (λ (v : Paged). frame_of v p) r.same) h
pooled-refused_write FullFrames old frames page r h = absurd r
pooled-refused_write NoRoom old frames page r h = absurd r
pooled-refused_write (NoPage q) old frames page r h = absurd r

pub pooled-refused_sync : (old : Pooled) (frames : Paged) → SyncFails old.frames frames → IsPooled old → IsPooled (record old { frames = frames })
pooled-refused_sync old frames r h = pooled-same old frames (ap (λ (v : Paged). v.pages) r.same) (λ p. ap (λ (v : Paged). frame_of v p) r.same) h

-- a frame whose lease is that of another one
lease_like : (f g : Framed) (w : List Change) → g.lent ≡ f.lent → LeasesWait (Some f) w → LeasesWait (Some g) w
lease_like f g w same h x l is lent = h f l refl (sym same ∙ ap (λ (y : Framed). y.lent) (same_Some g x is) ∙ lent)

pub pooled-writes : (old : Pooled) (frames : Paged) (dirty : List DirtyPage) (page : ℕ) → Writes old.frames frames page → length dirty ≡ length old.dirty → IsPooled old
    → IsPooled (record old { frames = frames; dirty = dirty })
pooled-writes old frames dirty page done rows h =
    pooled-frames old (record old { frames = frames; dirty = dirty }) (ap (λ (v : Paged). v.pages) done.same) rows refl refl lsns lents h
  where
    lsns : (p : ℕ) → lsn_or (frame_of frames p) 0 ≡ lsn_or (frame_of old.frames p) 0
    lsns p = elim (cases_eq p page) [
      | inl is ↦ subst (λ (k : ℕ). lsn_or (frame_of frames k) 0 ≡ lsn_or (frame_of old.frames k) 0) (sym is)
          (ap (λ (o : Option Framed). lsn_or o 0) done.sets.frame ∙ ap (λ (o : Option Framed). lsn_or o 0) (sym done.due.resident))
      | inr ne ↦ ap (λ (o : Option Framed). lsn_or o 0) (done.sets.others p ne)
    ]

    here : LeasesWait (frame_of frames page) (pending_of old.waits page)
    here = subst (λ (o : Option Framed). LeasesWait o (pending_of old.waits page)) (sym done.sets.frame)
        (lease_like done.f (record done.f { written = done.f.content.lsn }) (pending_of old.waits page) refl
        (subst (λ (o : Option Framed). LeasesWait o (pending_of old.waits page)) done.due.resident (h.lent page)))

    lents : (p : ℕ) → LeasesWait (frame_of frames p) (pending_of old.waits p)
    lents p = elim (cases_eq p page) [
      | inl is ↦ subst (λ (k : ℕ). LeasesWait (frame_of frames k) (pending_of old.waits k)) (sym is) here
      | inr ne ↦ subst (λ (o : Option Framed). LeasesWait o (pending_of old.waits p)) (sym (done.sets.others p ne)) (h.lent p)
    ]

lsn-synced : (o : Option Framed) → lsn_or (option_map synced_frame o) 0 ≡ lsn_or o 0
lsn-synced None = refl
lsn-synced (Some f) = refl

lease-synced : (o : Option Framed) (w : List Change) → LeasesWait o w → LeasesWait (option_map synced_frame o) w
lease-synced None w h = h
lease-synced (Some f) w h = lease_like f (synced_frame f) w refl h

pub pooled-syncs : (old : Pooled) (frames : Paged) (dirty : List DirtyPage) → Syncs old.frames frames → length dirty ≡ length old.dirty → IsPooled old → IsPooled (record old { frames = frames; dirty = dirty })
pooled-syncs old frames dirty done rows h =
    pooled-frames old (record old { frames = frames; dirty = dirty }) (ap (λ (v : Paged). v.pages) done.same) rows refl refl
    (λ p. ap (λ (o : Option Framed). lsn_or o 0) (done.frames p) ∙ lsn-synced (frame_of old.frames p))
    (λ p. subst (λ (o : Option Framed). LeasesWait o (pending_of old.waits p)) (sym (done.frames p)) (lease-synced (frame_of old.frames p) (pending_of old.waits p) (h.lent p))) h

-- ---- a change more

more_wait : (o : Option Framed) (w : List Change) (c : Change) → LeasesWait o w → LeasesWait o (w ++ c ∷ [])
more_wait o w c h f l is lent =
    let wait = h f l is lent in
    record { some = wait.some; most = wait.most; wait = omega (arith, wait.wait, length-append w (c ∷ [])) }

pub pooled-routes : (old : Pooled) (c : Change) (dirty : List DirtyPage) (waits : List (List Change)) → CanRoute old c → length dirty ≡ length old.dirty
    → waits ≡ slice_set old.waits c.key.page (pending_of old.waits c.key.page ++ c ∷ []) → IsPooled old → IsPooled (record old { dirty = dirty; waits = waits })
pooled-routes old c dirty waits can rows is h =
    pooled-set old (record old { dirty = dirty; waits = waits }) c.key.page (pending_of old.waits c.key.page ++ c ∷ []) can.in_range refl rows refl is can.next
    (λ p lt ne. h.ordered p lt) (more_wait (frame_of old.frames c.key.page) (pending_of old.waits c.key.page) c (h.lent c.key.page)) (λ p ne. h.lent p) h

-- ---- a page is read in

-- a free frame may be taken from another page
in_other : (frames loaded : Option Framed) (page : ℕ) (waits : List Change) → (loaded ≡ frames) ⊎ IsReplaced frames loaded
    → AreNext page (lsn_or frames 0) waits → AreNext page (lsn_or loaded 0) waits
in_other frames loaded page waits (inl same) h = subst (λ (o : Option Framed). AreNext page (lsn_or o 0) waits) (sym same) h
in_other frames loaded page waits (inr gone) h =
    let none : loaded ≡ None = gone.3 in
    let low : 0 ≤ lsn_or frames 0 = omega arith in
    subst (λ (o : Option Framed). AreNext page (lsn_or o 0) waits) (sym none) (next_lower page (lsn_or frames 0) 0 waits h low)

lease_of_other : (o o' : Option Framed) (w : List Change) → (o' ≡ o) ⊎ IsReplaced o o' → LeasesWait o w → LeasesWait o' w
lease_of_other o o' w (inl same) h = subst (λ (x : Option Framed). LeasesWait x w) (sym same) h
lease_of_other o o' w (inr gone) h = λ f l is lent. let none : None ≡ Some f = sym gone.3 ∙ is in absurd cc

-- what is left of what waits for a page that was read
pub left_is : (v : Pooled) (page : ℕ) (lsn : Lsn) → page < length v.waits → IsPooled v → drop (count_up_to lsn (pending_of v.waits page)) (pending_of v.waits page) ≡ above lsn.0 (pending_of v.waits page)
left_is v page lsn inside h = drop-above page (lsn_or (frame_of v.frames page) 0) lsn (pending_of v.waits page) (h.ordered page inside)

-- a page is read in
pub pooled-loads : (old new : Pooled) (page : ℕ) (content : PageState) (w : List Change) (e : DirtyPage) → page < length old.waits → PutsIn old.frames new.frames page content → w ≡ above content.lsn (pending_of old.waits page)
    → new.waits ≡ slice_set old.waits page w → new.dirty ≡ slice_set old.dirty page e → new.unread ≡ slice_set old.unread page None → IsPooled old → IsPooled new
pooled-loads old new page content w e inside puts left waits rows told h =
    let here : AreNext page content.lsn (above content.lsn (pending_of old.waits page)) = next-above page (lsn_or (frame_of old.frames page) 0) content.lsn (pending_of old.waits page) (h.ordered page inside) in
    pooled-set old new page w inside (ap (λ (v : Paged). v.pages) puts.same) (ap length rows ∙ length-set old.dirty page e) (ap length told ∙ length-set old.unread page None) waits
    (subst (λ (x : List Change). WaitsInOrder new.frames page x) (sym left)
    (subst (λ (o : Option Framed). AreNext page (lsn_or o 0) (above content.lsn (pending_of old.waits page))) (sym puts.frame) here))
    (λ p lt ne. in_other (frame_of old.frames p) (frame_of new.frames p) p (pending_of old.waits p) (puts.others p ne) (h.ordered p lt))
    (none_waits_for (frame_of new.frames page) (clean_frame page content) w puts.frame refl)
    (λ p ne. lease_of_other (frame_of old.frames p) (frame_of new.frames p) (pending_of old.waits p) (puts.others p ne) (h.lent p)) h

-- ---- leases

-- what waits for a resident page can be redone
pub next-of : (v : Pooled) (page : ℕ) (f : Framed) → page < length v.waits → frame_of v.frames page ≡ Some f → IsPooled v → AreNext page f.content.lsn (pending_of v.waits page)
next-of v page f inside is h = subst (λ (o : Option Framed). AreNext page (lsn_or o 0) (pending_of v.waits page)) is (h.ordered page inside)

front-of : (v : Pooled) (page count : ℕ) (f : Framed) → page < length v.waits → frame_of v.frames page ≡ Some f → IsPooled v
    → AreNext page f.content.lsn (take count (pending_of v.waits page) ++ drop count (pending_of v.waits page))
front-of v page count f inside is h =
    subst (λ (cs : List Change). AreNext page f.content.lsn cs) (sym (take-append-drop count (pending_of v.waits page))) (next-of v page f inside is h)

-- and so can the first of it, with which the page is lent
pub first-next : (v : Pooled) (page count : ℕ) (f : Framed) → page < length v.waits → frame_of v.frames page ≡ Some f → IsPooled v → AreNext page f.content.lsn (take count (pending_of v.waits page))
first-next v page count f inside is h = next_front page f.content.lsn (take count (pending_of v.waits page)) (drop count (pending_of v.waits page)) (front-of v page count f inside is h)

-- the lease of a page begins or ends
pub pooled-marks : (old new : Pooled) (page : ℕ) → (done : Marks old new page) → ((l : Lent) → done.lent ≡ Some l → IsLentWith l (pending_of old.waits page)) → IsPooled old → IsPooled new
pooled-marks old new page done waits h =
    pooled-frames old new (ap (λ (v : Paged). v.pages) done.framed) (ap (λ (v : Pooled). length v.dirty) done.same) (ap (λ (v : Pooled). v.waits) done.same) (ap (λ (v : Pooled). v.unread) done.same) lsns lents h
  where
    lsns : (p : ℕ) → lsn_or (frame_of new.frames p) 0 ≡ lsn_or (frame_of old.frames p) 0
    lsns p = elim (cases_eq p page) [
      | inl is ↦ subst (λ (k : ℕ). lsn_or (frame_of new.frames k) 0 ≡ lsn_or (frame_of old.frames k) 0) (sym is)
          (ap (λ (o : Option Framed). lsn_or o 0) done.sets.frame ∙ ap (λ (o : Option Framed). lsn_or o 0) (sym done.resident))
      | inr ne ↦ ap (λ (o : Option Framed). lsn_or o 0) (done.sets.others p ne)
    ]

    here : LeasesWait (frame_of new.frames page) (pending_of old.waits page)
    here f l is lent = waits l (ap (λ (x : Framed). x.lent) (same_Some (record done.f { lent = done.lent }) f (sym done.sets.frame ∙ is)) ∙ lent)

    lents : (p : ℕ) → LeasesWait (frame_of new.frames p) (pending_of old.waits p)
    lents p = elim (cases_eq p page) [
      | inl is ↦ subst (λ (k : ℕ). LeasesWait (frame_of new.frames k) (pending_of old.waits k)) (sym is) here
      | inr ne ↦ subst (λ (o : Option Framed). LeasesWait o (pending_of old.waits p)) (sym (done.sets.others p ne)) (h.lent p)
    ]

-- the first changes that wait for a page are redone
pub pooled-redoes : (old new : Pooled) (page count : ℕ) → Redoes old new page count → IsPooled old → IsPooled new
pooled-redoes old new page count done h =
    let w = pending_of old.waits page in
    let f = done.f in
    let lsn-is : lsn_after f.content.lsn (take count w) ≡ lsn_or (frame_of new.frames page) 0
    = sym (ap (λ (o : Option Framed). lsn_or o 0) done.sets.frame ∙ lsn-fold f.content (take count w)) in
    let behind : WaitsInOrder new.frames page (drop count w)
    = subst (λ (n : ℕ). AreNext page n (drop count w)) lsn-is (next_behind page f.content.lsn (take count w) (drop count w) (front-of old page count f done.inside done.resident h)) in
    pooled-set old new page (drop count w) done.inside (ap (λ (v : Paged). v.pages) done.framed) (ap (λ (v : Pooled). length v.dirty) done.same) (ap (λ (v : Pooled). length v.unread) done.same)
    (ap (λ (v : Pooled). v.waits) done.same) behind
    (λ p lt ne. subst (λ (o : Option Framed). AreNext p (lsn_or o 0) (pending_of old.waits p)) (sym (done.sets.others p ne)) (h.ordered p lt))
    (none_waits_for (frame_of new.frames page) (record f { content = redone_all f.content (take count w); lent = None }) (drop count w) done.sets.frame refl)
    (λ p ne. subst (λ (o : Option Framed). LeasesWait o (pending_of old.waits p)) (sym (done.sets.others p ne)) (h.lent p)) h

-- the content of a resident page
pub base_of : (o : Option Framed) (base : PageState) → Some base ≡ option_map (λ (f : Framed). f.content) o → (f : Framed) → o ≡ Some f → base ≡ f.content
base_of o base is f resident = same_Some base f.content (is ∙ ap (option_map (λ (g : Framed). g.content)) resident)

-- what the first of the changes that wait for a page need of it
pub base_next : (v : Pooled) (page id : ℕ) (base : PageState) (waiting : List Change) → page < length v.waits → IsSome (frame_of v.frames page) → IsPooled v
    → ((f : Framed) → frame_of v.frames page ≡ Some f → base ≡ f.content) → id ≡ page → waiting ≡ pending_of v.waits page → AreNext id base.lsn (take 64 waiting)
base_next v page id base waiting inside some h bases ids waits =
    let (f, is) = the_frame (frame_of v.frames page) some in
    subst (λ (n : ℕ). AreNext n base.lsn (take 64 waiting)) (sym ids)
    (subst (λ (s : PageState). AreNext page s.lsn (take 64 waiting)) (sym (bases f is))
    (subst (λ (cs : List Change). AreNext page f.content.lsn (take 64 cs)) (sym waits) (first-next v page 64 f inside is h)))

-- where changes wait, the first ones are some
pub first-some : (cs : List Change) → cs ≢ [] → 0 < length (take 64 cs)
first-some [] some = absurd (some refl)
first-some (c ∷ cs) some = omega arith

-- a page is lent with the first changes that wait for it
pub lent-with : (v : Pooled) (page number : ℕ) (lease : Leased) → lease.batch ≡ take 64 (pending_of v.waits page) → pending_of v.waits page ≢ [] → (l : Lent)
    → Some (record { number = number; count = length lease.batch }) ≡ Some l → IsLentWith l (pending_of v.waits page)
lent-with v page number lease batch some l is =
    let count : length lease.batch ≡ l.count = ap (λ (x : Lent). x.count) (same_Some (record { number = number; count = length lease.batch }) l is) in
    let len : length lease.batch ≡ length (take 64 (pending_of v.waits page)) = ap length batch in
    let least = length-take 64 (pending_of v.waits page) in
    record {
      some = omega (arith, count, len, first-some (pending_of v.waits page) some);
      most = omega (arith, count, len, least);
      wait = omega (arith, count, len, least);
    }

-- ---- where nothing waits

waits-least : (waits : List (List Change)) (page : ℕ) → length (pending_of waits page) ≤ total_waiting waits
waits-least waits page = elim (cases_lt page (length waits)) [
  | inl lt ↦ omega (arith, total-set waits page [] lt)
  | inr le ↦ omega (arith, ap (λ (cs : List Change). length cs) (nothing_past waits page le))
]

no_lease_at : (v : Pooled) (page : ℕ) → IsPooled v → total_waiting v.waits ≡ 0 → (o : Option Framed) → frame_of v.frames page ≡ o → lent_in o ≡ None
no_lease_at v page h none None is = refl
no_lease_at v page h none (Some f) is = by f.lent refl
  where
    by : (l : Option Lent) → f.lent ≡ l → l ≡ None
    by None lent = refl
    by (Some l) lent = let wait = h.lent page f l is lent in absurd (omega (arith, wait.some, wait.wait, waits-least v.waits page, none))

pub none_lent : (v : Pooled) (page : ℕ) → IsPooled v → total_waiting v.waits ≡ 0 → is_lent v page ≡ false
none_lent v page h none = ap (λ (l : Option Lent). is_some l) (no_lease_at v page h none (frame_of v.frames page) refl)

pub none_counted : (v : Pooled) → IsPooled v → total_waiting v.waits ≡ 0 → leases_of v ≡ 0
none_counted v h none = count_unlent v.frames.pages v.frames.frames (λ page. no_lease_at v page h none (frame_of v.frames page) refl)
