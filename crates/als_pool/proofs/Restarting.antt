-- A pool that was opened at a restart: where what waits begins, and the rows of pages that were not read yet.
use Rattle.std.proofs.Common.{false, ◌≡◌, ◌⊎◌, ℕ, ◌+◌, ◌-◌, ◌<◌, ◌≤◌, ◌^◌, ◌==◌, max, if◌then◌else◌, List, [], ◌∷◌, ◌++◌, length, replicate, map, drop, Option, Some, None, inl, inr, refl, sym, ap, subst, ◌∙◌, length-set, eq-eqb, ne_eqb, arith}
use Rattle.std.specs.Prelude.{slice_set, MatchOption, Result, Ok, Err, IfOk, IfErr, OnOk, OnErr, nat_eq}
use Rattle.std.specs.List.{fold}
use Rattle.std.specs.Map.{lookup}
use Rattle.std.specs.Option.{option_map}
use Rattle.std.proofs.lemmas.Bool.{cases_eq, cond-true, cond-false}
use Rattle.std.proofs.lemmas.List.{get_or-set_same, get_or-set_other, get_or-map, get_or-replicate, length-map, length-replicate}
use Rattle.als_record.specs.declared.lsn.Lsn.{Lsn}
use Rattle.als_record.specs.declared.change.Change.{Change}
use Rattle.als_record.specs.declared.record.Record.{Record}
use Rattle.als_record.specs.declared.rows.LoggedPage.{LoggedPage}
use Rattle.als_record.specs.LogText.{end_of, IsLog}
use Rattle.als_record.specs.Pages.{change_of, changes_above}
use Rattle.als_record.proofs.PageLaws.{changes_on-same, changes_above-nil}
use Rattle.als_frames.specs.declared.fault.Fault.{Fault as FramesFault}
use Rattle.als_frames.specs.declared.fault.Fault.TheVariants.{PoolFull as FullFrames, NothingToDo as NoFrame, Device as DiskFailed, Memory as NoRoom, BadPage as NoPage}
use Rattle.als_frames.specs.Frames.{Framed, Paged, frame_of}
use Rattle.als_frames.specs.Images.{lsn_or, synced_lsn}
use Rattle.als_frames.specs.Outcomes.{IsReplaced, synced_frame}
use Rattle.als_page.specs.Changes.{AreNext}
use Rattle.als_dirty.specs.declared.dirty_page.DirtyPage.{DirtyPage}
use Rattle.als_dirty.specs.Entries.{untouched_page, entry_of, first_of, after_record, after_write, after_sync, after_load}
use Rattle.als_dirty.specs.Images.{first_lsn}
use Rattle.als_dirty.specs.Rows.{rec_lsn_of}
use Rattle.als_pool.specs.declared.fault.Fault.{Fault}
use Rattle.als_pool.specs.declared.fault.Fault.TheVariants.{LogBehind, PoolFull, PageLent, NothingToDo, Device, Memory, BadPage, NumbersSpent}
use Rattle.als_pool.specs.Queues.{pending_of, total_waiting, above}
use Rattle.als_pool.specs.Pooled.{Pooled, Held, unread_of, WaitsInOrder, IsPooled}
use Rattle.als_pool.specs.Outcomes.{CanRoute, with_change, Loads, Lends, RefusesLend, Gives, Recalls, NotFetched, StoresPage, Flushes, RefusesFlush, SyncsPages, SyncPagesFails, ReadRefused, RefusesPage}
use Rattle.als_pool.specs.Images.{IsPageOf, IsPoolOf, IsQueueOf, QueuesOf, IsFromOn}
use Rattle.als_pool.specs.Restart.{at_first, row_after, row_in, or_from, or_first, start_of, IsOpened, IsUnreadRow, HasRowsFrom, IsRowOfRestart, Started, started_at, with_row}
use Rattle.als_lease.specs.Lease.{Leased}
use Rattle.als_pool.specs.Refusals.{is_lent}
use Rattle.als_pool.proofs.QueueLists.{some_inside}
use Rattle.als_pool.proofs.LeaseSteps.{Marks, Redoes, lends-marks, recalls-marks, gives-redoes}
use Rattle.als_pool.proofs.Waiting.{next_lower}
use Rattle.als_pool.proofs.PageSteps.{more_waits, change_lsn, first_lsn-push}
use Rattle.als_pool.proofs.PoolLaws.{next-list, change_inside}
use Rattle.als_pool.proofs.Keeping.{fetch_refused}

-- ---- the rows of a checkpoint are taken over

pub start-lengths : (rows : List LoggedPage) (s : Started) → (length (fold with_row s rows).dirty ≡ length s.dirty) × (length (fold with_row s rows).unread ≡ length s.unread)
start-lengths [] s = (refl, refl)
start-lengths (row ∷ rows) s =
    let then' = start-lengths rows (with_row s row) in (
      then'.0 ∙ length-set s.dirty row.page (after_load (Some (at_first row.rec_lsn))),
      then'.1 ∙ length-set s.unread row.page (Some (at_first row.rec_lsn)),
    )

-- what is kept of one page, by the row found for it
abbrev IsStart : Started → ℕ → Option Lsn → Lsn → Type 0
IsStart s page found from = (unread_of s.unread page ≡ Some (or_from found from)) × (entry_of s.dirty page ≡ after_load found)

one-row : (s : Started) (row : LoggedPage) (page : ℕ) (found : Option Lsn) (from : Lsn) → page < length s.unread → length s.dirty ≡ length s.unread → IsStart s page found from
    → IsStart (with_row s row) page (if row.page == page then Some (at_first row.rec_lsn) else found) from
one-row s row page found from lt len h =
    elim (cases_eq row.page page) [
      | inl same ↦
          subst (λ (x : Option Lsn). IsStart (with_row s row) page x from) (sym (cond-true (row.page == page) (Some (at_first row.rec_lsn)) found (eq-eqb row.page page same)))
          (subst (λ (k : ℕ). IsStart (with_row s row) k (Some (at_first row.rec_lsn)) from) same (
            get_or-set_same {A = Option Lsn} s.unread row.page (Some (at_first row.rec_lsn)) None (omega (arith, lt, same)),
            get_or-set_same s.dirty row.page (after_load (Some (at_first row.rec_lsn))) untouched_page (omega (arith, lt, len, same)),
          ))
      | inr ne ↦
          let apart : page ≡ row.page → ⊥ = λ is. ne (sym is) in
          subst (λ (x : Option Lsn). IsStart (with_row s row) page x from) (sym (cond-false (row.page == page) (Some (at_first row.rec_lsn)) found (ne_eqb row.page page ne))) (
            get_or-set_other {A = Option Lsn} s.unread row.page page (Some (at_first row.rec_lsn)) None apart ∙ h.0,
            get_or-set_other s.dirty row.page page (after_load (Some (at_first row.rec_lsn))) untouched_page apart ∙ h.1,
          )
    ]

all-rows : (rows : List LoggedPage) (s : Started) (page : ℕ) (found : Option Lsn) (from : Lsn) → page < length s.unread → length s.dirty ≡ length s.unread → IsStart s page found from
    → IsStart (fold with_row s rows) page (row_after found rows page) from
all-rows [] s page found from lt len h = h
all-rows (row ∷ rows) s page found from lt len h =
    let row-is = after_load (Some (at_first row.rec_lsn)) in
    let len' : length (with_row s row).unread ≡ length s.unread = length-set s.unread row.page (Some (at_first row.rec_lsn)) in
    all-rows rows (with_row s row) page (if row.page == page then Some (at_first row.rec_lsn) else found) from (omega (arith, lt, len'))
    (length-set s.dirty row.page row-is ∙ len ∙ sym len') (one-row s row page found from lt len h)

pub is_opened : (stored : Paged) (position : Lsn) (rows : List LoggedPage) (s : Started) → s ≡ fold with_row (started_at stored.pages position) rows
    → IsOpened stored position rows (record { frames = stored; dirty = s.dirty; waits = replicate stored.pages []; unread = s.unread; next = Some 1 })
is_opened stored position rows s is = record {
  frames = refl;
  waits = refl;
  tabled = ap (λ (x : Started). length x.dirty) is ∙ lengths.0 ∙ length-replicate stored.pages untouched_page;
  told = ap (λ (x : Started). length x.unread) is ∙ lengths.1 ∙ told;
  starts = λ page lt. ap (λ (x : Started). unread_of x.unread page) is ∙ (each page lt).0;
  given = λ page lt. ap (λ (x : Started). entry_of x.dirty page) is ∙ (each page lt).1;
  first = refl;
}
  where
    s0 : Started
    s0 = started_at stored.pages position

    lengths : (length (fold with_row s0 rows).dirty ≡ length s0.dirty) × (length (fold with_row s0 rows).unread ≡ length s0.unread)
    lengths = start-lengths rows s0

    told : length s0.unread ≡ stored.pages
    told = length-replicate {A = Option Lsn} stored.pages (Some (at_first position))

    each : (page : ℕ) → page < stored.pages → IsStart (fold with_row s0 rows) page (row_in rows page) (at_first position)
    each page lt =
        all-rows rows s0 page None (at_first position) (omega (arith, lt, told)) (length-replicate stored.pages untouched_page ∙ sym told)
        (get_or-replicate {A = Option Lsn} stored.pages page (Some (at_first position)) None lt, get_or-replicate stored.pages page untouched_page untouched_page lt)

-- ---- an opened pool

-- no row stands below the first record
abbrev IsPast : Option Lsn → Type 0
IsPast found = MatchOption found (Unit {0}) (λ lsn. 16 ≤ lsn.0)

past-one : (row : LoggedPage) (page : ℕ) (found : Option Lsn) → IsPast found → IsPast (if row.page == page then Some (at_first row.rec_lsn) else found)
past-one row page found h =
    elim (cases_eq row.page page) [
      | inl same ↦
          let here : 16 ≤ max 16 row.rec_lsn.0 = omega arith in
          subst IsPast (sym (cond-true (row.page == page) (Some (at_first row.rec_lsn)) found (eq-eqb row.page page same))) here
      | inr ne ↦ subst IsPast (sym (cond-false (row.page == page) (Some (at_first row.rec_lsn)) found (ne_eqb row.page page ne))) h
    ]

past-rows : (rows : List LoggedPage) (page : ℕ) (found : Option Lsn) → IsPast found → IsPast (row_after found rows page)
past-rows [] page found h = h
past-rows (row ∷ rows) page found h = past-rows rows page (if row.page == page then Some (at_first row.rec_lsn) else found) (past-one row page found h)

past-start : (given : Option Lsn) (position : Lsn) → IsPast given → 16 ≤ (or_from given (at_first position)).0
past-start None position h = omega arith
past-start (Some row) position h = h

pub start_first : (position : Lsn) (rows : List LoggedPage) (page : ℕ) → 16 ≤ (start_of position rows page).0
start_first position rows page = past-start (row_in rows page) position (past-rows rows page None tt)

given-row : (given : Option Lsn) (e : DirtyPage) (position : Lsn) → e ≡ after_load given → (e.synced ≡ Some (or_from given (at_first position))) ⊎ (e.synced ≡ None)
given-row None e position is = inr (ap (λ (x : DirtyPage). x.synced) is)
given-row (Some row) e position is = inl (ap (λ (x : DirtyPage). x.synced) is)

or-none : (given : Option Lsn) → given ≡ or_first given None
or-none None = refl
or-none (Some row) = refl

none_is_some : (f : Framed) → None ≡ Some f → ⊥
none_is_some f e = cc

no_frame : (v : Paged) (p : ℕ) → v.frames ≡ [] → frame_of v p ≡ None
no_frame v p none = ap (λ (fs : List (ℕ × Framed)). lookup (nat_eq p) fs) none

module _ (stored : Paged) (position : Lsn) (rows : List LoggedPage) (v : Pooled) (h : IsOpened stored position rows v) where
  pub opened-length : length v.waits ≡ stored.pages
  opened-length = ap (λ (ws : List (List Change)). length ws) h.waits ∙ length-replicate stored.pages []

  nothing : (page : ℕ) → page < stored.pages → pending_of v.waits page ≡ []
  nothing page lt = ap (λ (ws : List (List Change)). pending_of ws page) h.waits ∙ get_or-replicate {A = List Change} stored.pages page [] [] lt

  -- nothing waits, so all that waits can be redone
  pub opened_pooled : stored.frames ≡ [] → IsPooled v
  opened_pooled none = record {
    paged = ap (λ (f : Paged). f.pages) h.frames ∙ sym opened-length;
    tabled = h.tabled ∙ sym opened-length;
    told = h.told ∙ sym opened-length;
    ordered = λ page lt. subst (λ (w : List Change). WaitsInOrder v.frames page w) (sym (nothing page (omega (arith, lt, opened-length)))) tt;
    lent = λ page f l is. absurd (none_is_some f (sym (ap (λ (x : Paged). frame_of x page) h.frames ∙ no_frame stored page none) ∙ is));
  }

  pub opened_reads : QueuesOf [] v
  opened_reads = record { tabled = h.tabled ∙ sym opened-length; each = each }
    where
      each : (page : ℕ) → page < length v.waits → MatchOption (unread_of v.unread page) ⊥ (λ from. IsQueueOf [] page (entry_of v.dirty page) (pending_of v.waits page) from)
      each page lt =
          let lt' : page < stored.pages = omega (arith, lt, opened-length) in
          let start = start_of position rows page in
          let wait : pending_of v.waits page ≡ [] = nothing page lt' in
          let row : (entry_of v.dirty page).synced ≡ Some start ⊎ (entry_of v.dirty page).synced ≡ first_lsn (pending_of v.waits page)
          = elim (given-row (row_in rows page) (entry_of v.dirty page) position (h.given page lt')) [
            | inl is ↦ inl is
            | inr is ↦ inr (is ∙ ap first_lsn (sym wait))
          ] in
          let it : IsQueueOf [] page (entry_of v.dirty page) (pending_of v.waits page) start = record {
            first = start_first position rows page;
            wait = wait ∙ sym (changes_above-nil page (start.0 - 1));
            row = row;
            one = ap (λ (x : DirtyPage). x.written) (h.given page lt') ∙ sym (ap (λ (x : DirtyPage). x.synced) (h.given page lt'));
          } in
          subst (λ (u : Option Lsn). MatchOption u ⊥ (λ from. IsQueueOf [] page (entry_of v.dirty page) (pending_of v.waits page) from)) (sym (h.starts page lt')) it

  pub opened_rows : stored.frames ≡ [] → HasRowsFrom position rows v
  opened_rows none = record {
    paged = ap (λ (f : Paged). f.pages) h.frames ∙ sym opened-length;
    tabled = h.tabled ∙ sym opened-length;
    told = h.told ∙ sym opened-length;
    each = each;
  }
    where
      each : (page : ℕ) → page < length v.waits
          → MatchOption (unread_of v.unread page) (Unit {0}) (λ from. IsUnreadRow position (row_in rows page) (frame_of v.frames page) (entry_of v.dirty page) (pending_of v.waits page) from)
      each page lt =
          let lt' : page < stored.pages = omega (arith, lt, opened-length) in
          let it : IsUnreadRow position (row_in rows page) (frame_of v.frames page) (entry_of v.dirty page) (pending_of v.waits page) (start_of position rows page) = record {
            start = refl;
            row = ap (λ (x : DirtyPage). x.synced) (h.given page lt') ∙ or-none (row_in rows page) ∙ ap (λ (w : List Change). or_first (row_in rows page) (first_lsn w)) (sym (nothing page lt'));
            one = ap (λ (x : DirtyPage). x.written) (h.given page lt') ∙ sym (ap (λ (x : DirtyPage). x.synced) (h.given page lt'));
            absent = ap (λ (f : Paged). frame_of f page) h.frames ∙ no_frame stored page none;
          } in
          subst (λ (u : Option Lsn). MatchOption u (Unit {0}) (λ from. IsUnreadRow position (row_in rows page) (frame_of v.frames page) (entry_of v.dirty page) (pending_of v.waits page) from))
          (sym (h.starts page lt')) it

-- ---- the rows of unread pages, call by call

module _ (position : Lsn) (rows : List LoggedPage) where
  -- a page's row by what the checkpoint gave it
  abbrev IsRowAt : Option Lsn → Option Framed → DirtyPage → List Change → Option Lsn → Type 0
  IsRowAt given o e w u = MatchOption u (Unit {0}) (λ from. IsUnreadRow position given o e w from)

  row-cong : (given : Option Lsn) (o o' : Option Framed) (e e' : DirtyPage) (w w' : List Change) (u u' : Option Lsn) → (o ≡ None → o' ≡ None) → e' ≡ e → w' ≡ w → u' ≡ u → IsRowAt given o e w u → IsRowAt given o' e' w' u'
  row-cong given o o' e e' w w' u u' oe ee we ue h =
      subst (λ (x : DirtyPage). IsRowAt given o' x w' u') (sym ee)
      (subst (λ (x : List Change). IsRowAt given o' e x u') (sym we)
      (subst (λ (x : Option Lsn). IsRowAt given o' e w x) (sym ue) (framed u h)))
    where
      framed : (x : Option Lsn) → IsRowAt given o e w x → IsRowAt given o' e w x
      framed None k = tt
      framed (Some from) k = record { start = k.start; row = k.row; one = k.one; absent = oe k.absent }

  -- a page with a frame was read
  resident : (given : Option Lsn) (o o' : Option Framed) (f : Framed) (e e' : DirtyPage) (w w' : List Change) (u : Option Lsn) → o ≡ Some f → IsRowAt given o e w u → IsRowAt given o' e' w' u
  resident given o o' f e e' w w' None is h = tt
  resident given o o' f e e' w w' (Some from) is h = let no' : Some f ≡ None = sym is ∙ h.absent in absurd cc

  first-more : (given : Option Lsn) (e : DirtyPage) (w : List Change) (c : Change) → e.synced ≡ or_first given (first_lsn w) → first_of e.synced c.lsn ≡ or_first given (first_lsn (w ++ c ∷ []))
  first-more None e w c is = ap (λ (n : Option Lsn). first_of n c.lsn) is ∙ sym (first_lsn-push w c)
  first-more (Some row) e w c is = ap (λ (n : Option Lsn). first_of n c.lsn) is

  pushed-row' : (given : Option Lsn) (o : Option Framed) (e : DirtyPage) (w : List Change) (u : Option Lsn) (c : Change) → IsRowAt given o e w u → IsRowAt given o (after_record e c.lsn) (w ++ c ∷ []) u
  pushed-row' given o e w None c h = tt
  pushed-row' given o e w (Some from) c h = record {
    start = h.start;
    row = first-more given e w c h.row;
    one = ap (λ (n : Option Lsn). first_of n c.lsn) h.one;
    absent = h.absent;
  }

  synced-row : (given : Option Lsn) (o : Option Framed) (e : DirtyPage) (w : List Change) (u : Option Lsn) → IsRowAt given o e w u → IsRowAt given (option_map synced_frame o) (after_sync e) w u
  synced-row given o e w None h = tt
  synced-row given o e w (Some from) h = record {
    start = h.start;
    row = h.one ∙ h.row;
    one = refl;
    absent = ap (option_map synced_frame) h.absent;
  }

  -- a record more
  pub rows-route : (v : Pooled) (c : Change) → c.key.page < length v.waits → HasRowsFrom position rows v → HasRowsFrom position rows (with_change v c)
  rows-route v c inside h = record {
    paged = h.paged ∙ sym (length-set v.waits c.key.page w');
    tabled = length-set v.dirty c.key.page e' ∙ h.tabled ∙ sym (length-set v.waits c.key.page w');
    told = h.told ∙ sym (length-set v.waits c.key.page w');
    each = λ p lt. at p (omega (arith, length-set v.waits c.key.page w', lt));
  }
    where
      e' : DirtyPage
      e' = after_record (entry_of v.dirty c.key.page) c.lsn

      w' : List Change
      w' = pending_of v.waits c.key.page ++ c ∷ []

      at : (p : ℕ) → p < length v.waits → IsRowAt (row_in rows p) (frame_of v.frames p) (entry_of (slice_set v.dirty c.key.page e') p) (pending_of (slice_set v.waits c.key.page w') p) (unread_of v.unread p)
      at p lt = elim (cases_eq p c.key.page) [
        | inl same ↦
            subst (λ (k : ℕ). IsRowAt (row_in rows k) (frame_of v.frames k) (entry_of (slice_set v.dirty c.key.page e') k) (pending_of (slice_set v.waits c.key.page w') k) (unread_of v.unread k)) (sym same)
            (row-cong (row_in rows c.key.page) (frame_of v.frames c.key.page) (frame_of v.frames c.key.page) e' (entry_of (slice_set v.dirty c.key.page e') c.key.page) w' (pending_of (slice_set v.waits c.key.page w') c.key.page)
            (unread_of v.unread c.key.page) (unread_of v.unread c.key.page) (λ is. is)
            (get_or-set_same v.dirty c.key.page e' untouched_page (omega (arith, inside, h.tabled))) (get_or-set_same v.waits c.key.page w' [] inside) refl
            (pushed-row' (row_in rows c.key.page) (frame_of v.frames c.key.page) (entry_of v.dirty c.key.page) (pending_of v.waits c.key.page) (unread_of v.unread c.key.page) c (h.each c.key.page inside)))
        | inr ne ↦
            row-cong (row_in rows p) (frame_of v.frames p) (frame_of v.frames p) (entry_of v.dirty p) (entry_of (slice_set v.dirty c.key.page e') p) (pending_of v.waits p) (pending_of (slice_set v.waits c.key.page w') p)
            (unread_of v.unread p) (unread_of v.unread p) (λ is. is) (get_or-set_other v.dirty c.key.page p e' untouched_page ne) (get_or-set_other v.waits c.key.page p w' [] ne) refl (h.each p lt)
      ]

  -- no frame has changed
  rows-frames : (old new : Pooled) (frames : Paged) → new ≡ record old { frames = frames } → frames.pages ≡ old.frames.pages → ((p : ℕ) → frame_of frames p ≡ frame_of old.frames p)
      → HasRowsFrom position rows old → HasRowsFrom position rows new
  rows-frames old new frames is pages same h = subst (λ (v : Pooled). HasRowsFrom position rows v) (sym is) (record {
    paged = pages ∙ h.paged;
    tabled = h.tabled;
    told = h.told;
    each = λ p lt. row-cong (row_in rows p) (frame_of old.frames p) (frame_of frames p) (entry_of old.dirty p) (entry_of old.dirty p) (pending_of old.waits p) (pending_of old.waits p) (unread_of old.unread p) (unread_of old.unread p)
        (λ none. same p ∙ none) refl refl refl (h.each p lt);
  })

  still-none : (o o' : Option Framed) → (o' ≡ o) ⊎ IsReplaced o o' → o ≡ None → o' ≡ None
  still-none o o' (inl same) is = same ∙ is
  still-none o o' (inr gone) is = gone.3

  -- a page is read in
  rows-loads : (old new : Pooled) (page end : ℕ) → page < length old.waits → Loads old new page end → HasRowsFrom position rows old → HasRowsFrom position rows new
  rows-loads old new page end inside loads h = subst (λ (v : Pooled). HasRowsFrom position rows v) (sym loads.same) (record {
    paged = ap (λ (v : Paged). v.pages) loads.puts.same ∙ h.paged ∙ sym (length-set old.waits page left);
    tabled = length-set old.dirty page e' ∙ h.tabled ∙ sym (length-set old.waits page left);
    told = length-set old.unread page None ∙ h.told ∙ sym (length-set old.waits page left);
    each = λ p lt. at p (omega (arith, length-set old.waits page left, lt));
  })
    where
      left : List Change
      left = above loads.content.lsn (pending_of old.waits page)

      e' : DirtyPage
      e' = after_load (first_lsn left)

      at : (p : ℕ) → p < length old.waits → IsRowAt (row_in rows p) (frame_of new.frames p) (entry_of (slice_set old.dirty page e') p) (pending_of (slice_set old.waits page left) p) (unread_of (slice_set old.unread page None) p)
      at p lt = elim (cases_eq p page) [
        | inl same ↦
            let none : unread_of (slice_set old.unread page None) p ≡ None
            = ap (λ (k : ℕ). unread_of (slice_set old.unread page None) k) same ∙ get_or-set_same {A = Option Lsn} old.unread page None None (omega (arith, inside, h.told)) in
            subst (λ (u : Option Lsn). IsRowAt (row_in rows p) (frame_of new.frames p) (entry_of (slice_set old.dirty page e') p) (pending_of (slice_set old.waits page left) p) u) (sym none) tt
        | inr ne ↦
            row-cong (row_in rows p) (frame_of old.frames p) (frame_of new.frames p) (entry_of old.dirty p) (entry_of (slice_set old.dirty page e') p) (pending_of old.waits p) (pending_of (slice_set old.waits page left) p)
            (unread_of old.unread p) (unread_of (slice_set old.unread page None) p) (still-none (frame_of old.frames p) (frame_of new.frames p) (loads.puts.others p ne))
            (get_or-set_other old.dirty page p e' untouched_page ne) (get_or-set_other old.waits page p left [] ne) (get_or-set_other {A = Option Lsn} old.unread page p None None ne) (h.each p lt)
      ]

  rows-resident : (old new : Pooled) (page end : ℕ) (o : Option Framed) → page < length old.waits → MatchOption o (Loads old new page end) (λ f. new ≡ old) → HasRowsFrom position rows old → HasRowsFrom position rows new
  rows-resident old new page end None inside made h = rows-loads old new page end inside made h
  rows-resident old new page end (Some f) inside made h = subst (λ (v : Pooled). HasRowsFrom position rows v) (sym made) h

  -- the first changes that wait for a page are redone
  rows-redoes : (old new : Pooled) (page count : ℕ) → Redoes old new page count → HasRowsFrom position rows old → HasRowsFrom position rows new
  rows-redoes old new page count done h = subst (λ (v : Pooled). HasRowsFrom position rows v) (sym done.same) (record {
    paged = ap (λ (v : Paged). v.pages) done.framed ∙ h.paged ∙ sym (length-set old.waits page left);
    tabled = h.tabled ∙ sym (length-set old.waits page left);
    told = h.told ∙ sym (length-set old.waits page left);
    each = λ p lt. at p (omega (arith, length-set old.waits page left, lt));
  })
    where
      left : List Change
      left = drop count (pending_of old.waits page)

      at : (p : ℕ) → p < length old.waits → IsRowAt (row_in rows p) (frame_of new.frames p) (entry_of old.dirty p) (pending_of (slice_set old.waits page left) p) (unread_of old.unread p)
      at p lt = elim (cases_eq p page) [
        | inl same ↦
            resident (row_in rows p) (frame_of old.frames p) (frame_of new.frames p) done.f (entry_of old.dirty p) (entry_of old.dirty p) (pending_of old.waits p) (pending_of (slice_set old.waits page left) p) (unread_of old.unread p)
            (ap (λ (k : ℕ). frame_of old.frames k) same ∙ done.resident) (h.each p lt)
        | inr ne ↦
            row-cong (row_in rows p) (frame_of old.frames p) (frame_of new.frames p) (entry_of old.dirty p) (entry_of old.dirty p) (pending_of old.waits p) (pending_of (slice_set old.waits page left) p)
            (unread_of old.unread p) (unread_of old.unread p) (λ none. done.sets.others p ne ∙ none) refl (get_or-set_other old.waits page p left [] ne) refl (h.each p lt)
      ]

  -- the lease of a page begins or ends
  rows-marks : (old new : Pooled) (page : ℕ) → Marks old new page → HasRowsFrom position rows old → HasRowsFrom position rows new
  rows-marks old new page done h = subst (λ (v : Pooled). HasRowsFrom position rows v) (sym done.same) (record {
    paged = ap (λ (v : Paged). v.pages) done.framed ∙ h.paged;
    tabled = h.tabled;
    told = h.told;
    each = at;
  })
    where
      at : (p : ℕ) → p < length old.waits → IsRowAt (row_in rows p) (frame_of new.frames p) (entry_of old.dirty p) (pending_of old.waits p) (unread_of old.unread p)
      at p lt = elim (cases_eq p page) [
        | inl same ↦
            resident (row_in rows p) (frame_of old.frames p) (frame_of new.frames p) done.f (entry_of old.dirty p) (entry_of old.dirty p) (pending_of old.waits p) (pending_of old.waits p) (unread_of old.unread p)
            (ap (λ (k : ℕ). frame_of old.frames k) same ∙ done.resident) (h.each p lt)
        | inr ne ↦
            row-cong (row_in rows p) (frame_of old.frames p) (frame_of new.frames p) (entry_of old.dirty p) (entry_of old.dirty p) (pending_of old.waits p) (pending_of old.waits p)
            (unread_of old.unread p) (unread_of old.unread p) (λ none. done.sets.others p ne ∙ none) refl refl refl (h.each p lt)
      ]

  rows-not_fetched : (e : FramesFault) (old new : Pooled) (page end : ℕ) → NotFetched e old new page end → HasRowsFrom position rows old → HasRowsFrom position rows new
  rows-not_fetched e old new page end fails h =
      let same = fetch_refused e old.frames new.frames page end fails.refuses in
      rows-frames old new new.frames fails.same same.0 same.1 h

  rows-refused_lend : (e : Fault) (old new : Held) (page end : ℕ) → RefusesLend e old new page end → HasRowsFrom position rows old.pool → HasRowsFrom position rows new.pool
  rows-refused_lend PageLent old new page end r h = subst (λ (v : Held). HasRowsFrom position rows v.pool) (sym r.1) h
  rows-refused_lend NothingToDo old new page end (inl r) h = subst (λ (v : Held). HasRowsFrom position rows v.pool) (sym r.2) h
  rows-refused_lend NothingToDo old new page end (inr r) h = rows-loads old.pool new.pool page end (some_inside old.pool.waits page r.1.some) r.1.loads h
  rows-refused_lend NumbersSpent old new page end r h = subst (λ (v : Held). HasRowsFrom position rows v.pool) (sym r.3) h
  rows-refused_lend PoolFull old new page end r h = rows-not_fetched FullFrames old.pool new.pool page end r.1 h
  rows-refused_lend Device old new page end r h = rows-not_fetched DiskFailed old.pool new.pool page end r.1 h
  rows-refused_lend Memory old new page end r h = subst (λ (v : Pooled). HasRowsFrom position rows v) (sym r.1.same) h
  rows-refused_lend (BadPage p) old new page end r h = rows-not_fetched (NoPage p) old.pool new.pool page end r.1 h
  rows-refused_lend LogBehind old new page end r h = absurd r

  pub rows-lend : (r : Result Leased Fault) (old new : Held) (page end : ℕ) → IfOk r (λ lease. Lends old.pool new.pool page end lease) → IfErr r (λ e. RefusesLend e old new page end)
      → HasRowsFrom position rows old.pool → HasRowsFrom position rows new.pool
  rows-lend (Ok lease) old new page end ok err h =
      rows-marks ok.loaded new.pool page (lends-marks ok.loaded new.pool page lease ok.first)
      (rows-resident old.pool ok.loaded page end (frame_of old.pool.frames page) (some_inside old.pool.waits page ok.some) ok.resident h)
  rows-lend (Err e) old new page end ok err h = rows-refused_lend e old new page end err h

  pub rows-give : (r : Result (Unit {0}) Leased) (old new : Held) (lease : Leased) → OnOk r (Gives old.pool new.pool lease) → IfErr r (λ l. (l ≡ lease) × (new ≡ old))
      → HasRowsFrom position rows old.pool → HasRowsFrom position rows new.pool
  rows-give (Ok x) old new lease ok err h = rows-redoes old.pool new.pool lease.page lease.done (gives-redoes old.pool new.pool lease ok) h
  rows-give (Err l) old new lease ok err h = subst (λ (v : Held). HasRowsFrom position rows v.pool) (sym err.1) h

  pub rows-recall : (r : Result (Unit {0}) Fault) (old new : Held) (page : ℕ) → OnOk r (Recalls old.pool new.pool page) → IfErr r (λ e. (e ≡ NothingToDo) × (is_lent old.pool page ≡ false) × (new ≡ old))
      → HasRowsFrom position rows old.pool → HasRowsFrom position rows new.pool
  rows-recall (Ok x) old new page ok err h = rows-marks old.pool new.pool page (recalls-marks old.pool new.pool page ok) h
  rows-recall (Err e) old new page ok err h = subst (λ (v : Held). HasRowsFrom position rows v.pool) (sym err.2) h

  -- a page is written
  rows-stores : (old new : Pooled) (page : ℕ) (lsn : Lsn) → StoresPage old new page lsn → HasRowsFrom position rows old → HasRowsFrom position rows new
  rows-stores old new page lsn done h = subst (λ (v : Pooled). HasRowsFrom position rows v) (sym done.same) (record {
    paged = ap (λ (v : Paged). v.pages) done.writes.same ∙ h.paged;
    tabled = length-set old.dirty page e' ∙ h.tabled;
    told = h.told;
    each = at;
  })
    where
      e' : DirtyPage
      e' = after_write (entry_of old.dirty page) (first_lsn (pending_of old.waits page))

      at : (p : ℕ) → p < length old.waits → IsRowAt (row_in rows p) (frame_of new.frames p) (entry_of (slice_set old.dirty page e') p) (pending_of old.waits p) (unread_of old.unread p)
      at p lt = elim (cases_eq p page) [
        | inl same ↦
            resident (row_in rows p) (frame_of old.frames p) (frame_of new.frames p) done.writes.f (entry_of old.dirty p) (entry_of (slice_set old.dirty page e') p) (pending_of old.waits p) (pending_of old.waits p) (unread_of old.unread p)
            (ap (λ (k : ℕ). frame_of old.frames k) same ∙ done.writes.due.resident) (h.each p lt)
        | inr ne ↦
            row-cong (row_in rows p) (frame_of old.frames p) (frame_of new.frames p) (entry_of old.dirty p) (entry_of (slice_set old.dirty page e') p) (pending_of old.waits p) (pending_of old.waits p)
            (unread_of old.unread p) (unread_of old.unread p) (λ none. done.writes.sets.others p ne ∙ none) (get_or-set_other old.dirty page p e' untouched_page ne) refl refl (h.each p lt)
      ]

  rows-refused_flush : (e : Fault) (old new : Pooled) (page : ℕ) (acknowledged : Lsn) → RefusesFlush e old new page acknowledged → HasRowsFrom position rows old → HasRowsFrom position rows new
  rows-refused_flush PageLent old new page acknowledged r h = subst (λ (v : Pooled). HasRowsFrom position rows v) (sym r.1) h
  rows-refused_flush NumbersSpent old new page acknowledged r h = absurd r
  rows-refused_flush NothingToDo old new page acknowledged r h = subst (λ (v : Pooled). HasRowsFrom position rows v) (sym r.2) h
  rows-refused_flush LogBehind old new page acknowledged r h = subst (λ (v : Pooled). HasRowsFrom position rows v) (sym r.2) h
  rows-refused_flush Device old new page acknowledged r h =
      rows-frames old new new.frames r.1.same (ap (λ (v : Paged). v.pages) r.1.fails.same) (λ p. ap (λ (v : Paged). frame_of v p) r.1.fails.same) h
  rows-refused_flush PoolFull old new page acknowledged r h = absurd r
  rows-refused_flush Memory old new page acknowledged r h = absurd r
  rows-refused_flush (BadPage p) old new page acknowledged r h = absurd r

  pub rows-flush : (r : Result (Unit {0}) Fault) (old new : Pooled) (page : ℕ) (acknowledged : Lsn) → OnOk r (Flushes old new page acknowledged) → IfErr r (λ e. RefusesFlush e old new page acknowledged)
      → HasRowsFrom position rows old → HasRowsFrom position rows new
  rows-flush (Ok x) old new page acknowledged ok err h = rows-stores old new page ok.lsn ok.stores h
  rows-flush (Err e) old new page acknowledged ok err h = rows-refused_flush e old new page acknowledged err h

  -- the device is synced
  rows-syncs : (old new : Pooled) → SyncsPages old new → HasRowsFrom position rows old → HasRowsFrom position rows new
  rows-syncs old new done h = subst (λ (v : Pooled). HasRowsFrom position rows v) (sym done.same) (record {
    paged = ap (λ (v : Paged). v.pages) done.syncs.same ∙ h.paged;
    tabled = length-map old.dirty after_sync ∙ h.tabled;
    told = h.told;
    each = λ p lt. row-cong (row_in rows p) (option_map synced_frame (frame_of old.frames p)) (frame_of new.frames p) (after_sync (entry_of old.dirty p)) (entry_of (map after_sync old.dirty) p)
        (pending_of old.waits p) (pending_of old.waits p) (unread_of old.unread p) (unread_of old.unread p) (λ none. done.syncs.frames p ∙ none)
        (get_or-map after_sync old.dirty p untouched_page untouched_page (omega (arith, lt, h.tabled))) refl refl
        (synced-row (row_in rows p) (frame_of old.frames p) (entry_of old.dirty p) (pending_of old.waits p) (unread_of old.unread p) (h.each p lt));
  })

  pub rows-sync : (r : Result (Unit {0}) Fault) (old new : Pooled) → OnOk r (SyncsPages old new) → OnErr r (SyncPagesFails old new) → HasRowsFrom position rows old → HasRowsFrom position rows new
  rows-sync (Ok x) old new ok err h = rows-syncs old new ok h
  rows-sync (Err e) old new ok err h = rows-frames old new new.frames err.same (ap (λ (v : Paged). v.pages) err.fails.same) (λ p. ap (λ (v : Paged). frame_of v p) err.fails.same) h

  -- a page is shown
  rows-read : (e : FramesFault) (old new : Pooled) (page : ℕ) → ReadRefused e old new page → HasRowsFrom position rows old → HasRowsFrom position rows new
  rows-read DiskFailed old new page r h = rows-frames old new new.frames r.same (ap (λ (v : Paged). v.pages) r.refuses.same) (λ p. ap (λ (v : Paged). frame_of v p) r.refuses.same) h
  rows-read (NoPage q) old new page r h = rows-frames old new new.frames r.same (ap (λ (v : Paged). v.pages) r.refuses.2) (λ p. ap (λ (v : Paged). frame_of v p) r.refuses.2) h
  rows-read FullFrames old new page r h = absurd r.refuses
  rows-read NoRoom old new page r h = absurd r.refuses
  rows-read NoFrame old new page r h = absurd r.refuses

  rows-refused_page : (e : Fault) (old new : Pooled) (page : ℕ) → RefusesPage e old new page → HasRowsFrom position rows old → HasRowsFrom position rows new
  rows-refused_page Device old new page r h = rows-read DiskFailed old new page r h
  rows-refused_page (BadPage p) old new page r h = rows-read (NoPage p) old new page r h
  rows-refused_page LogBehind old new page r h = absurd r
  rows-refused_page PageLent old new page r h = absurd r
  rows-refused_page NumbersSpent old new page r h = absurd r
  rows-refused_page PoolFull old new page r h = absurd r
  rows-refused_page NothingToDo old new page r h = absurd r
  rows-refused_page Memory old new page r h = absurd r

  pub rows-page : {T : Type 0} (r : Result T Fault) (old new : Held) (page : ℕ) → OnOk r (new ≡ old) → IfErr r (λ e. RefusesPage e old.pool new.pool page)
      → HasRowsFrom position rows old.pool → HasRowsFrom position rows new.pool
  rows-page (Ok x) old new page ok err h = subst (λ (v : Held). HasRowsFrom position rows v.pool) (sym ok) h
  rows-page (Err e) old new page ok err h = rows-refused_page e old.pool new.pool page err h

  -- ---- laws

  abbrev IsRowFrom : List Record → ℕ → Option Lsn → DirtyPage → List Change → Lsn → Type 0
  IsRowFrom log page given e w from = IsRowOfRestart log page from given e.synced w

  pub row_start : (v : Pooled) (page : ℕ) (from : Lsn) → HasRowsFrom position rows v → page < length v.waits → unread_of v.unread page ≡ Some from → from ≡ start_of position rows page
  row_start v page from h lt is =
      let it : IsUnreadRow position (row_in rows page) (frame_of v.frames page) (entry_of v.dirty page) (pending_of v.waits page) from
      = subst (λ (u : Option Lsn). IsRowAt (row_in rows page) (frame_of v.frames page) (entry_of v.dirty page) (pending_of v.waits page) u) is (h.each page lt) in
      it.start

  pub row_of_restart : (log : List Record) (below : ℕ) (v : Pooled) (page : ℕ) (from : Lsn) → IsPoolOf log below v → HasRowsFrom position rows v → page < length v.waits → unread_of v.unread page ≡ Some from
      → IsRowOfRestart log page from (row_in rows page) (rec_lsn_of v.dirty page) (pending_of v.waits page)
  row_of_restart log below v page from pool h lt is =
      let it : IsUnreadRow position (row_in rows page) (frame_of v.frames page) (entry_of v.dirty page) (pending_of v.waits page) from
      = subst (λ (u : Option Lsn). IsRowAt (row_in rows page) (frame_of v.frames page) (entry_of v.dirty page) (pending_of v.waits page) u) is (h.each page lt) in
      let at : IsPageOf log page (frame_of v.frames page) (synced_lsn v.frames page) (entry_of v.dirty page) (pending_of v.waits page) (Some from)
      = subst (λ (u : Option Lsn). IsPageOf log page (frame_of v.frames page) (synced_lsn v.frames page) (entry_of v.dirty page) (pending_of v.waits page) u) is (pool.each page lt) in
      record {
        row = it.row ∙ ap (λ (w : List Change). or_first (row_in rows page) (first_lsn w)) at.wait;
        wait = at.wait;
      }

  -- the change of the next record can go behind those that wait
  can-read : (front : List Record) (pages : ℕ) (r : Record) (c : Change) (o : Option Framed) (e : DirtyPage) (w : List Change) (u : Option Lsn) → IsLog pages (front ++ r ∷ []) → r.lsn.0 ≡ end_of front
      → change_of r ≡ Some c → MatchOption u ⊥ (λ from. from.0 ≤ c.lsn.0) → MatchOption u ⊥ (λ from. IsQueueOf front c.key.page e w from) → IsRowAt (row_in rows c.key.page) o e w u
      → AreNext c.key.page (lsn_or o 0) (w ++ c ∷ [])
  can-read front pages r c o e w None is_log at is le queue row = absurd le
  can-read front pages r c o e w (Some from) is_log at is le queue row =
      let place : c.lsn.0 ≡ end_of front = ap (λ (l : Lsn). l.0) (change_lsn r c is) ∙ at in
      let low : from.0 - 1 < end_of front = omega (arith, queue.first, le, place) in
      let more : w ++ c ∷ [] ≡ changes_above (front ++ r ∷ []) c.key.page (from.0 - 1)
      = ap (λ (cs : List Change). w ++ cs) (sym (changes_on-same c.key.page r c is refl)) ∙ more_waits front r at c.key.page (from.0 - 1) w low queue.wait in
      let next : AreNext c.key.page (from.0 - 1) (w ++ c ∷ []) = next-list pages (front ++ r ∷ []) c.key.page (from.0 - 1) (w ++ c ∷ []) is_log (sym more) in
      subst (λ (x : Option Framed). AreNext c.key.page (lsn_or x 0) (w ++ c ∷ [])) (sym row.absent) (next_lower c.key.page (from.0 - 1) 0 (w ++ c ∷ []) next (omega arith))

  pub can_read : (front : List Record) (r : Record) (c : Change) (v : Pooled) → HasRowsFrom position rows v → QueuesOf front v → IsLog v.frames.pages (front ++ r ∷ []) → r.lsn.0 ≡ end_of front
      → change_of r ≡ Some c → IsFromOn v c → total_waiting v.waits + 1 < 2 ^ 64 → CanRoute v c
  can_read front r c v h queues is_log at is le count =
      let inside : c.key.page < length v.waits = omega (arith, change_inside v.frames.pages front r c is_log at is, h.paged) in
      record {
        in_range = inside;
        next = can-read front v.frames.pages r c (frame_of v.frames c.key.page) (entry_of v.dirty c.key.page) (pending_of v.waits c.key.page) (unread_of v.unread c.key.page) is_log at is le
            (queues.each c.key.page inside) (h.each c.key.page inside);
        count = count;
      }
