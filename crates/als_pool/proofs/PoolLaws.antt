-- What holds of a pool for every log.
use Rattle.std.proofs.Common.{◌≡◌, ◌⊎◌, ℕ, ◌+◌, ◌-◌, ◌<◌, ◌≤◌, ◌^◌, List, [], ◌∷◌, ◌++◌, length, Option, Some, None, inl, inr, refl, sym, ap, subst, ◌∙◌, IsTrue, arith}
use Rattle.std.specs.Prelude.{Contains}
use Rattle.std.specs.List.{AllByRecursion}
use Rattle.std.proofs.lemmas.Bool.{cases_lt}
use Rattle.als_record.specs.declared.lsn.Lsn.{Lsn}
use Rattle.als_record.specs.declared.change.Change.{Change}
use Rattle.als_record.specs.declared.record.Record.{Record}
use Rattle.als_record.specs.LogText.{end_of, follow_from, IsLog}
use Rattle.als_record.specs.Pages.{change_of, changes_above, IsChangeAbove, IsFittingChange}
use Rattle.als_record.proofs.PageLaws.{changes_on-same, changes_above-push, changes_above-fit, changes_above-cons, changes_above-head}
use Rattle.als_frames.specs.Frames.{Framed, frame_of, slot_of}
use Rattle.als_frames.specs.Images.{synced_lsn, synced_content, lsn_or, IsImageOf}
use Rattle.als_page.specs.Changes.{AreNext}
use Rattle.als_frames.proofs.Keeping.{each_image}
use Rattle.als_frames.proofs.PageSteps.{oldest_image}
use Rattle.als_dirty.specs.declared.dirty_page.DirtyPage.{DirtyPage}
use Rattle.als_dirty.specs.Entries.{entry_of}
use Rattle.als_dirty.specs.Rows.{rec_lsn_of}
use Rattle.als_dirty.specs.Images.{first_lsn}
use Rattle.als_dirty.proofs.ImageSteps.{nothing_later, first_later, changes_above-later}
use Rattle.als_pool.specs.Queues.{total_waiting, pending_of}
use Rattle.als_pool.specs.Pooled.{Pooled, unread_of}
use Rattle.als_pool.specs.Outcomes.{CanRoute}
use Rattle.als_pool.specs.Images.{IsPageOf, IsPoolOf, IsCovered, IsRowSound, IsRowExact}
use Rattle.als_pool.proofs.Waiting.{next_lower, none-between, all-lower}
use Rattle.als_pool.proofs.PageSteps.{more_waits}
use Rattle.als_pool.proofs.PoolSteps.{reached}

-- ---- rows

covered : (log : List Record) (page low lsn : ℕ) (rec_lsn : Option Lsn) → IsTrue (follow_from 16 log) → low ≤ lsn → rec_lsn ≡ first_lsn (changes_above log page low) → IsCovered log page lsn rec_lsn
covered log page low lsn None h le is = nothing_later log page low lsn (changes_above log page low) le refl (sym is)
covered log page low lsn (Some first) h le is = first_later log page low lsn first (changes_above log page low) h le refl (sym is)

-- where no change above the image is below an LSN, and the row is the first change from that LSN on
covered-first : (log : List Record) (page s lsn : ℕ) (from : Lsn) (rec_lsn : Option Lsn) → IsTrue (follow_from 16 log) → s ≤ lsn → 16 ≤ from.0
    → AllByRecursion (λ c. from.0 ≤ c.lsn.0) (changes_above log page lsn) → rec_lsn ≡ first_lsn (changes_above log page (from.0 - 1)) → IsCovered log page lsn rec_lsn
covered-first log page s lsn from rec_lsn h le least lacks is =
    elim (cases_lt (from.0 - 1) lsn) [
      | inl lt ↦ let low : from.0 - 1 ≤ lsn = omega (arith, lt) in covered log page (from.0 - 1) lsn rec_lsn h low is
      | inr ge ↦
          let self : lsn ≤ lsn = omega arith in
          let under : from.0 - 1 < from.0 = omega (arith, least) in
          covered log page lsn lsn rec_lsn h self (is ∙ ap first_lsn (none-between log page (from.0 - 1) lsn ge (all-lower (from.0 - 1) from.0 (changes_above log page lsn) under lacks)))
    ]

-- by what the table has of the page
pub covered-page : (log : List Record) (page s lsn : ℕ) (o : Option Framed) (e : DirtyPage) (w : List Change) (u : Option Lsn) → IsTrue (follow_from 16 log) → s ≤ lsn
    → IsPageOf log page o s e w u → IsCovered log page lsn e.synced
covered-page log page s lsn o e w None h le is = covered log page s lsn e.synced h le is.row.synced_first.first
covered-page log page s lsn o e w (Some from) h le is = by_row is.row
  where
    lacks : AllByRecursion (λ c. from.0 ≤ c.lsn.0) (changes_above log page lsn)
    lacks = changes_above-later (λ c. from.0 ≤ c.lsn.0) log page s lsn le is.lacks

    by_row : ((e.synced ≡ Some from) × (from.0 < end_of log)) ⊎ (e.synced ≡ first_lsn w) → IsCovered log page lsn e.synced
    by_row (inl given) = subst (λ (r : Option Lsn). IsCovered log page lsn r) (sym given.0) lacks
    by_row (inr first) = covered-first log page s lsn from e.synced h le is.first lacks (first ∙ ap first_lsn is.wait)

pub row_is_sound : (log : List Record) (below : ℕ) (v : Pooled) (page : ℕ) (content : List ℕ) → IsPoolOf log below v → page < length v.waits
    → Contains (slot_of v.frames page).candidates content → IsRowSound log page below (rec_lsn_of v.dirty page) content
row_is_sound log below v page content h lt has =
    let image : IsImageOf log page below (synced_lsn v.frames page) content = each_image log (synced_lsn v.frames) below v.frames page content (omega (arith, lt, h.paged)) h.frames has in
    record {
      lsn = image.lsn;
      stable = image.stable;
      spelled = image.spelled;
      covered = covered-page log page (synced_lsn v.frames page) image.lsn (frame_of v.frames page) (entry_of v.dirty page) (pending_of v.waits page) (unread_of v.unread page) h.frames.is_log.laid_out image.from (h.each page lt);
    }

pub row_is_exact : (log : List Record) (below : ℕ) (v : Pooled) (page : ℕ) → IsPoolOf log below v → page < length v.waits → unread_of v.unread page ≡ None
    → IsRowExact log page (rec_lsn_of v.dirty page) (synced_content (slot_of v.frames page))
row_is_exact log below v page h lt was_read =
    let (is, stable) = oldest_image log page below (synced_lsn v.frames page) v.frames.sure (slot_of v.frames page) (frame_of v.frames page) (h.frames.each page (omega (arith, lt, h.paged))) in
    let it : IsPageOf log page (frame_of v.frames page) (synced_lsn v.frames page) (entry_of v.dirty page) (pending_of v.waits page) None
    = subst (λ (u : Option Lsn). IsPageOf log page (frame_of v.frames page) (synced_lsn v.frames page) (entry_of v.dirty page) (pending_of v.waits page) u) was_read (h.each page lt) in
    record { lsn = synced_lsn v.frames page; own = stable.own; spelled = is; exact = it.row.synced_first.first }

-- ---- changes that come

pub next-list : (pages : ℕ) (log : List Record) (page lsn : ℕ) (cs : List Change) → IsLog pages log → changes_above log page lsn ≡ cs → AreNext page lsn cs
next-list pages log page lsn [] h e = tt
next-list pages log page lsn (c ∷ rest) h e =
    let above' : IsChangeAbove page lsn (end_of log) c = changes_above-head log page lsn c rest h.laid_out e in
    let fits : AllByRecursion (IsFittingChange pages) (c ∷ rest) = subst (λ cs. AllByRecursion (IsFittingChange pages) cs) e (changes_above-fit pages log page lsn h.records) in
    let then' = changes_above-cons log page lsn c rest h.laid_out e in
    (above'.of_page, fits.0.key.slot, above'.first, above'.above, next-list pages log page c.lsn.0 rest h then'.changes_then)

all-last : (P : Change → Type 0) (xs ys : List Change) (c : Change) → AllByRecursion P (xs ++ c ∷ ys) → P c
all-last P [] ys c h = h.0
all-last P (x ∷ xs) ys c h = all-last P xs ys c h.1

pub log-start : (log : List Record) → 16 ≤ end_of log
unfolding end_of
log-start log = omega arith

-- a record's change fits the database
pub change_fits : (pages : ℕ) (log : List Record) (r : Record) (c : Change) → IsLog pages (log ++ r ∷ []) → r.lsn.0 ≡ end_of log → change_of r ≡ Some c → IsFittingChange pages c
change_fits pages log r c is_log at change =
    let lt : 0 < r.lsn.0 = omega (arith, at, log-start log) in
    let all = changes_above-fit pages (log ++ r ∷ []) c.key.page 0 is_log.records in
    let parts = changes_above-push log r c.key.page 0 lt ∙ ap (λ (cs : List Change). changes_above log c.key.page 0 ++ cs) (changes_on-same c.key.page r c change refl) in
    all-last (IsFittingChange pages) (changes_above log c.key.page 0) [] c (subst (λ cs. AllByRecursion (IsFittingChange pages) cs) parts all)

-- its page is one of the database
pub change_inside : (pages : ℕ) (log : List Record) (r : Record) (c : Change) → IsLog pages (log ++ r ∷ []) → r.lsn.0 ≡ end_of log → change_of r ≡ Some c → c.key.page < pages
change_inside pages log r c is_log at change = (change_fits pages log r c is_log at change).key.page

-- what waits with the change behind it can be redone, by what the page is
next-page : (log : List Record) (pages s : ℕ) (r : Record) (c : Change) (o : Option Framed) (e : DirtyPage) (w : List Change) (u : Option Lsn) → IsLog pages (log ++ r ∷ []) → r.lsn.0 ≡ end_of log
    → change_of r ≡ Some c → lsn_or o s < end_of log → IsPageOf log c.key.page o s e w u → AreNext c.key.page (lsn_or o 0) (w ++ c ∷ [])
next-page log pages s r c o e w None is_log at is lt h =
    let more : w ++ c ∷ [] ≡ changes_above (log ++ r ∷ []) c.key.page (lsn_or o s)
    = ap (λ (cs : List Change). w ++ cs) (sym (changes_on-same c.key.page r c is refl)) ∙ more_waits log r at c.key.page (lsn_or o s) w lt h.wait in
    from_frame o (next-list pages (log ++ r ∷ []) c.key.page (lsn_or o s) (w ++ c ∷ []) is_log (sym more))
  where
    from_frame : (f : Option Framed) → AreNext c.key.page (lsn_or f s) (w ++ c ∷ []) → AreNext c.key.page (lsn_or f 0) (w ++ c ∷ [])
    from_frame None n = next_lower c.key.page s 0 (w ++ c ∷ []) n (omega arith)
    from_frame (Some f) n = n
next-page log pages s r c o e w (Some from) is_log at is lt h =
    let low : from.0 - 1 < end_of log = omega (arith, h.first, h.reached) in
    let more : w ++ c ∷ [] ≡ changes_above (log ++ r ∷ []) c.key.page (from.0 - 1)
    = ap (λ (cs : List Change). w ++ cs) (sym (changes_on-same c.key.page r c is refl)) ∙ more_waits log r at c.key.page (from.0 - 1) w low h.wait in
    let next : AreNext c.key.page (from.0 - 1) (w ++ c ∷ []) = next-list pages (log ++ r ∷ []) c.key.page (from.0 - 1) (w ++ c ∷ []) is_log (sym more) in
    subst (λ (x : Option Framed). AreNext c.key.page (lsn_or x 0) (w ++ c ∷ [])) (sym h.absent) (next_lower c.key.page (from.0 - 1) 0 (w ++ c ∷ []) next (omega arith))

pub can_route : (log : List Record) (below : ℕ) (v : Pooled) (r : Record) (c : Change) → IsPoolOf log below v → IsLog v.frames.pages (log ++ r ∷ []) → r.lsn.0 ≡ end_of log
    → change_of r ≡ Some c → total_waiting v.waits + 1 < 2 ^ 64 → CanRoute v c
can_route log below v r c h is_log at is count =
    let inside : c.key.page < length v.waits = omega (arith, change_inside v.frames.pages log r c is_log at is, h.paged) in
    record {
      in_range = inside;
      next = next-page log v.frames.pages (synced_lsn v.frames c.key.page) r c (frame_of v.frames c.key.page) (entry_of v.dirty c.key.page) (pending_of v.waits c.key.page) (unread_of v.unread c.key.page)
          is_log at is (reached log below v c.key.page inside h).1 (h.each c.key.page inside);
      count = count;
    }

-- the row of a page that was read, once more
pub rec_lsn_first : (log : List Record) (below : ℕ) (v : Pooled) (page : ℕ) → IsPoolOf log below v → page < length v.waits → unread_of v.unread page ≡ None
    → rec_lsn_of v.dirty page ≡ first_lsn (changes_above log page (synced_lsn v.frames page))
rec_lsn_first log below v page h lt was_read =
    let it : IsPageOf log page (frame_of v.frames page) (synced_lsn v.frames page) (entry_of v.dirty page) (pending_of v.waits page) None
    = subst (λ (u : Option Lsn). IsPageOf log page (frame_of v.frames page) (synced_lsn v.frames page) (entry_of v.dirty page) (pending_of v.waits page) u) was_read (h.each page lt) in
    it.row.synced_first.first
