-- What the blocks of a pool of a log hold after a stop, for a front of the log.
use Rattle.std.proofs.Common.{◌≡◌, ◌⊎◌, ℕ, ◌<◌, ◌≤◌, IsTrue, List, [], ◌∷◌, ◌++◌, length, inl, inr, sym, ap, subst, ◌∙◌, arith}
use Rattle.std.specs.Prelude.{Contains}
use Rattle.std.specs.List.{AllByRecursion}
use Rattle.als_record.specs.declared.lsn.Lsn.{Lsn}
use Rattle.als_record.specs.declared.change.Change.{Change}
use Rattle.als_record.specs.declared.record.Record.{Record}
use Rattle.als_record.specs.declared.rows.LoggedPage.{LoggedPage}
use Rattle.als_record.specs.Spelling.{IsRecord}
use Rattle.als_record.specs.LogText.{end_of, follow_from, IsLog}
use Rattle.als_record.specs.Pages.{PageState, page_at, changes_on, changes_above}
use Rattle.als_record.proofs.PageLaws.{follow_from-parts, page_at-append, changes_above-append}
use Rattle.als_disk.specs.Slot.{Slot, KeepsCandidate}
use Rattle.als_disk.specs.SlotLaws.{Contains-one}
use Rattle.als_page.specs.Block.{block_of}
use Rattle.als_frames.specs.Frames.{slot_of}
use Rattle.als_frames.specs.Images.{synced_lsn, IsImageOf}
use Rattle.als_frames.proofs.Keeping.{each_image}
use Rattle.als_dirty.proofs.ImageSteps.{changes_above-later}
use Rattle.als_pool.specs.Pooled.{Pooled}
use Rattle.als_pool.specs.Images.{IsPoolOf}
use Rattle.als_pool.specs.Restart.{start_of, IsRowBelow, IsImageFrom, HoldsImagesFrom, CoversPages}
use Rattle.als_pool.proofs.PoolLaws.{log-start}

-- ---- a front of a log

all-front : {X : Type 0} (P : X → Type 0) (xs ys : List X) → AllByRecursion P (xs ++ ys) → AllByRecursion P xs
all-front P [] ys h = tt
all-front P (x ∷ xs) ys h = (h.0, all-front P xs ys h.1)

front-log : (pages : ℕ) (front rest : List Record) → IsLog pages (front ++ rest) → IsLog pages front
front-log pages front rest h = record { laid_out = (follow_from-parts front rest h.laid_out).0; records = all-front (IsRecord pages) front rest h.records }

module _ (front rest : List Record) (follow : IsTrue (follow_from 16 (front ++ rest))) where
  same-page : (page lsn : ℕ) → lsn < end_of front → page_at (front ++ rest) page lsn ≡ page_at front page lsn
  same-page page lsn lt = page_at-append front rest page lsn (end_of front) (follow_from-parts front rest follow).1 lt

  all-above : (P : Change → Type 0) (page lsn : ℕ) → lsn < end_of front → AllByRecursion P (changes_above (front ++ rest) page lsn) → AllByRecursion P (changes_above front page lsn)
  all-above P page lsn lt h =
      all-front P (changes_above front page lsn) (changes_on page rest)
      (subst (λ (cs : List Change). AllByRecursion P cs) (changes_above-append front rest page lsn (end_of front) (follow_from-parts front rest follow).1 lt) h)

  inside : (lsn below : ℕ) → (lsn ≡ 0) ⊎ (lsn < below) → below ≤ end_of front → lsn < end_of front
  inside lsn below (inl none) le = omega (arith, none, log-start front)
  inside lsn below (inr lt) le = omega (arith, lt, le)

  raised : (lsn below more : ℕ) → below ≤ more → (lsn ≡ 0) ⊎ (lsn < below) → (lsn ≡ 0) ⊎ (lsn < more)
  raised lsn below more le (inl none) = inl none
  raised lsn below more le (inr lt) = inr (omega (arith, lt, le))

  -- an image of a page is one of it in the front, where that ends at or above what survives
  front-image : (page below more synced : ℕ) (from : Lsn) (content : List ℕ) → below ≤ more → more ≤ end_of front → AllByRecursion (λ c. from.0 ≤ c.lsn.0) (changes_above (front ++ rest) page synced)
      → IsImageOf (front ++ rest) page below synced content → IsImageFrom front page more from content
  front-image page below more synced from content le le' lacks image =
      let lt : image.lsn < end_of front = inside image.lsn below image.stable.stable (omega (arith, le, le')) in
      let same : page_at (front ++ rest) page image.lsn ≡ page_at front page image.lsn = same-page page image.lsn lt in
      record {
        lsn = image.lsn;
        stable = record { own = ap (λ (p : PageState). p.lsn) (sym same) ∙ image.stable.own; inside = lt; stable = raised image.lsn below more le image.stable.stable };
        spelled = image.spelled ∙ ap (λ (p : PageState). block_of page p) same;
        lacks = all-above (λ c. from.0 ≤ c.lsn.0) page image.lsn lt (changes_above-later (λ c. from.0 ≤ c.lsn.0) (front ++ rest) page synced image.lsn image.from lacks);
      }

-- whatever a stop leaves
stopped-of : (front rest : List Record) (below more : ℕ) (position : Lsn) (rows : List LoggedPage) (v : Pooled) (left : ℕ → Slot) → IsPoolOf (front ++ rest) below v → below ≤ more → more ≤ end_of front
    → position.0 ≤ end_of front → AllByRecursion (IsRowBelow position) rows → CoversPages (front ++ rest) position rows v
    → ((page : ℕ) → page < length v.waits → KeepsCandidate (slot_of v.frames page) (left page)) → HoldsImagesFrom front more v.frames.pages position rows left
stopped-of front rest below more position rows v left h le le' reached listed covers picks = record {
  is_log = front-log v.frames.pages front rest h.frames.is_log;
  reached = reached;
  listed = listed;
  settled = λ page lt. let k = picks page (omega (arith, lt, h.paged)) in (k.content, k.left);
  images = λ page content lt has.
      let lt' : page < length v.waits = omega (arith, lt, h.paged) in
      let k = picks page lt' in
      let is : k.content ≡ content = Contains-one (subst (λ (s : Slot). Contains s.candidates content) k.left has) in
      let image : IsImageOf (front ++ rest) page below (synced_lsn v.frames page) k.content
      = each_image (front ++ rest) (synced_lsn v.frames) below v.frames page k.content lt h.frames k.was_candidate in
      subst (λ (x : List ℕ). IsImageFrom front page more (start_of position rows page) x) is
      (front-image front rest h.frames.is_log.laid_out page below more (synced_lsn v.frames page) (start_of position rows page) k.content le le' (covers page lt') image);
}

pub stopped : (log front rest : List Record) (below more : ℕ) (position : Lsn) (rows : List LoggedPage) (v : Pooled) (left : ℕ → Slot) → IsPoolOf log below v → log ≡ front ++ rest → below ≤ more → more ≤ end_of front
    → position.0 ≤ end_of front → AllByRecursion (IsRowBelow position) rows → CoversPages log position rows v
    → ((page : ℕ) → page < length v.waits → KeepsCandidate (slot_of v.frames page) (left page)) → HoldsImagesFrom front more v.frames.pages position rows left
stopped log front rest below more position rows v left h is le le' reached listed covers picks =
    stopped-of front rest below more position rows v left (subst (λ (l : List Record). IsPoolOf l below v) is h) le le' reached listed (subst (λ (l : List Record). CoversPages l position rows v) is covers) picks
