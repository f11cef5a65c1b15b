-- What lending a page, taking it back and recalling it leave of all pages, for a log.
use Rattle.std.proofs.Common.{◌≡◌, ℕ, ◌<◌, Bool, List, [], ◌∷◌, ◌++◌, Option, Some, None, fold, inl, inr, sym, ap, subst, arith}
use Rattle.std.proofs.lemmas.Bool.Decides.{eqb_tells}
use Rattle.als_record.specs.declared.change.Change.{Change}
use Rattle.als_record.specs.declared.record.Record.{Record}
use Rattle.als_record.specs.LogText.{IsLog}
use Rattle.als_record.specs.Pages.{PageState, redone, changes_above}
use Rattle.als_record.proofs.PageLaws.{changes_above-cons}
use Rattle.als_page.specs.Changes.{redone_all}
use Rattle.als_disk.specs.Slot.{Slot}
use Rattle.als_frames.specs.declared.lent.Lent.{Lent}
use Rattle.als_frames.specs.Frames.{Framed, Paged, frame_of, slot_of}
use Rattle.als_frames.specs.Images.{IsFramedAt, IsPageAt, AreFramesOf}
use Rattle.als_frames.specs.Outcomes.{SetsFrame}
use Rattle.als_frames.specs.Leases.{Lends, TakesBack, Recalls}
use Rattle.als_frames.proofs.PageSteps.{redone_page}

-- ---- one page

module _ (log : List Record) (page below : ℕ) where
  -- the next changes of a page are redone
  batch_page : (pages synced : ℕ) (sure : Bool) (slot : Slot) (f : Framed) (cs rest : List Change) → IsLog pages log
      → changes_above log page f.content.lsn ≡ cs ++ rest → IsFramedAt log page below synced sure slot f
      → IsFramedAt log page below synced sure slot (record f { content = fold redone f.content cs })
  batch_page pages synced sure slot f [] rest is_log next h = h
  batch_page pages synced sure slot f (c ∷ cs) rest is_log next h =
      let passed = changes_above-cons log page f.content.lsn c (cs ++ rest) is_log.laid_out next in
      batch_page pages synced sure slot (record f { content = redone f.content c }) cs rest is_log passed.changes_then
      (redone_page log page below pages synced sure slot f c (cs ++ rest) is_log next h)

  -- its lease begins or ends
  marked_page : (synced : ℕ) (sure : Bool) (slot : Slot) (f : Framed) (l : Option Lent) → IsFramedAt log page below synced sure slot f → IsFramedAt log page below synced sure slot (record f { lent = l })
  marked_page synced sure slot f l h = record {
    synced_is = h.synced_is;
    last = h.last;
    since = h.since;
    oldest = h.oldest;
    from = h.from;
    order = h.order;
    inside = h.inside;
    content = h.content;
    stable = h.stable;
    candidates = h.candidates;
    settled = h.settled;
    readable = h.readable;
  }

-- ---- all pages

-- the frame of a page becomes another one, which is the page's too
keeps_set : (log : List Record) (synced : ℕ → ℕ) (below : ℕ) (old new : Paged) (page : ℕ) (g : Framed) → SetsFrame old new page g → new ≡ record old { frames = new.frames }
    → (page < old.pages → IsFramedAt log page below (synced page) old.sure (slot_of old page) g) → AreFramesOf log synced below old → AreFramesOf log synced below new
keeps_set log synced below old new page g sets same set h = record { is_log = subst (λ n. IsLog n log) (sym pages) h.is_log; each = each }
  where
    pages : new.pages ≡ old.pages
    pages = ap (λ (v : Paged). v.pages) same

    now : (p : ℕ) (o : Option Framed) → frame_of new p ≡ o → IsPageAt log p below (synced p) old.sure (slot_of old p) o
        → IsPageAt log p below (synced p) new.sure (slot_of new p) (frame_of new p)
    now p o is at =
        subst (λ (b : Bool). IsPageAt log p below (synced p) b (slot_of new p) (frame_of new p)) (sym (ap (λ (v : Paged). v.sure) same))
        (subst (λ (s : Slot). IsPageAt log p below (synced p) old.sure s (frame_of new p)) (sym (ap (λ (v : Paged). slot_of v p) same))
        (subst (λ (x : Option Framed). IsPageAt log p below (synced p) old.sure (slot_of old p) x) (sym is) at))

    each : (p : ℕ) → p < new.pages → IsPageAt log p below (synced p) new.sure (slot_of new p) (frame_of new p)
    each p lt =
        let lt' : p < old.pages = omega (arith, lt, pages) in
        elim (eqb_tells p page) [
          | inl is ↦ subst (λ n. IsPageAt log n below (synced n) new.sure (slot_of new n) (frame_of new n)) (sym is.1) (now page (Some g) sets.frame (set (omega (arith, lt', is.1))))
          | inr apart ↦ now p (frame_of old p) (sets.others p apart.1) (h.each p lt')
        ]

framed : (log : List Record) (synced : ℕ → ℕ) (below : ℕ) (old : Paged) (page : ℕ) (f : Framed) → frame_of old page ≡ Some f → page < old.pages → AreFramesOf log synced below old
    → IsFramedAt log page below (synced page) old.sure (slot_of old page) f
framed log synced below old page f is lt h = subst (IsPageAt log page below (synced page) old.sure (slot_of old page)) is (h.each page lt)

-- the lease of a page begins or ends
pub keeps_marked : (log : List Record) (synced : ℕ → ℕ) (below : ℕ) (old new : Paged) (page : ℕ) (f : Framed) (l : Option Lent) → frame_of old page ≡ Some f
    → SetsFrame old new page (record f { lent = l }) → new ≡ record old { frames = new.frames } → AreFramesOf log synced below old → AreFramesOf log synced below new
keeps_marked log synced below old new page f l is sets same h =
    keeps_set log synced below old new page (record f { lent = l }) sets same
    (λ lt. marked_page log page below (synced page) old.sure (slot_of old page) f l (framed log synced below old page f is lt h)) h

pub keeps_lend : (log : List Record) (synced : ℕ → ℕ) (below : ℕ) (old new : Paged) (page : ℕ) (lent : Lent) → Lends old new page lent → AreFramesOf log synced below old → AreFramesOf log synced below new
keeps_lend log synced below old new page lent done h = keeps_marked log synced below old new page done.f (Some lent) done.resident done.sets done.same h

pub keeps_recall : (log : List Record) (synced : ℕ → ℕ) (below : ℕ) (old new : Paged) (page : ℕ) → Recalls old new page → AreFramesOf log synced below old → AreFramesOf log synced below new
keeps_recall log synced below old new page done h = keeps_marked log synced below old new page done.f None done.resident done.sets done.same h

-- a page is taken back, which was made by the redo of its next changes in the log
pub keeps_take_back : (log : List Record) (synced : ℕ → ℕ) (below : ℕ) (old new : Paged) (page : ℕ) (content : PageState) (changes rest : List Change) → TakesBack old new page content
    → ((f : Framed) → frame_of old page ≡ Some f → (content ≡ redone_all f.content changes) × (changes_above log page f.content.lsn ≡ changes ++ rest))
    → AreFramesOf log synced below old → AreFramesOf log synced below new
keeps_take_back log synced below old new page content changes rest done next h =
    keeps_set log synced below old new page (record done.f { content = content; lent = None }) done.sets done.same set h
  where
    set : page < old.pages → IsFramedAt log page below (synced page) old.sure (slot_of old page) (record done.f { content = content; lent = None })
    set lt =
        let made = next done.f done.resident in
        let after = batch_page log page below old.pages (synced page) old.sure (slot_of old page) done.f changes rest h.is_log made.1 (framed log synced below old page done.f done.resident lt h) in
        subst (λ (s : PageState). IsFramedAt log page below (synced page) old.sure (slot_of old page) (record done.f { content = s; lent = None })) (sym made.0)
        (marked_page log page below (synced page) old.sure (slot_of old page) (record done.f { content = redone_all done.f.content changes }) None after)
