-- What each call leaves of one page, for a log.
use Rattle.std.proofs.Common.{◌≡◌, ◌≢◌, ◌⊎◌, ℕ, ◌<◌, ◌≤◌, Bool, false, IsTrue, List, [], ◌∷◌, ◌++◌, Option, Some, None, inl, inr, refl, sym, ap, subst, ◌∙◌, arith, true≢false}
use Rattle.std.specs.Prelude.{Contains, get_or}
use Rattle.std.specs.Option.{option_map}
use Rattle.als_record.specs.declared.change.Change.{Change}
use Rattle.als_record.specs.declared.record.Record.{Record}
use Rattle.als_record.specs.LogText.{end_of, IsLog}
use Rattle.als_record.specs.Pages.{PageState, redone, page_at, changes_above, IsChangeAbove}
use Rattle.als_record.proofs.PageLaws.{page_at-push, changes_above-cons, changes_above-head, IsPageState-page_at, PassesOne}
use Rattle.als_disk.specs.Slot.{Slot, only, written, FailsToWrite, KeepsReadable}
use Rattle.als_disk.specs.SlotLaws.{Contains-one, candidates-write, readable-write, candidates-fail}
use Rattle.als_page.specs.Block.{block_of}
use Rattle.als_page.proofs.BlockLaws.{big_number-block_of}
use Rattle.als_frames.specs.Frames.{Framed, IsClean, clean_frame}
use Rattle.als_frames.specs.Images.{image_of, IsStable, IsImageOf, IsStoredAt, IsFramedAt, IsPageAt, spelled_lsn, synced_content, written_or}
use Rattle.als_frames.specs.Outcomes.{IsFound, IsBadBelow, IsBad, synced_frame}
use Rattle.als_frames.proofs.PageBlocks.{block_of-injective}

module _ (log : List Record) (page below : ℕ) where
  -- what is among the one content of a block
  one_of : (slot : Slot) (content x : List ℕ) → slot ≡ only content → Contains slot.candidates x → content ≡ x
  one_of slot content x is has = Contains-one (subst (λ (s : Slot). Contains s.candidates x) is has)

  one_readable : (slot : Slot) (content x : List ℕ) → slot ≡ only content → Contains slot.readable x → content ≡ x
  one_readable slot content x is has = Contains-one (subst (λ (s : Slot). Contains s.readable x) is has)

  -- a block with one content, that of a stable image
  images_one : (synced lsn : ℕ) (slot : Slot) → synced ≤ lsn → IsStable log page below lsn → slot ≡ only (image_of log page lsn)
      → (x : List ℕ) → Contains slot.candidates x → IsImageOf log page below synced x
  images_one synced lsn slot from stable is x has = record { lsn = lsn; from = from; stable = stable; spelled = sym (one_of slot (image_of log page lsn) x is has) }

  -- whatever a crash leaves is a stable image
  pub images : (synced : ℕ) (sure : Bool) (slot : Slot) (o : Option Framed) → IsPageAt log page below synced sure slot o
      → (x : List ℕ) → Contains slot.candidates x → IsImageOf log page below synced x
  images synced sure slot None h = let from : synced ≤ synced = omega arith in images_one synced synced slot from h.stable h.settled
  images synced sure slot (Some f) h = h.candidates

  -- the frame of a page has it as the log does
  pub framed_content : (synced : ℕ) (sure : Bool) (slot : Slot) (o : Option Framed) (f : Framed) → o ≡ Some f → IsPageAt log page below synced sure slot o
      → f.content ≡ page_at log page f.content.lsn
  framed_content synced sure slot o f is h = let framed : IsFramedAt log page below synced sure slot f = subst (IsPageAt log page below synced sure slot) is h in framed.content

  -- of a clean frame the image last written is the one last synced
  clean_written : (synced : ℕ) (sure : Bool) (slot : Slot) (f : Framed) → IsFramedAt log page below synced sure slot f → IsClean f → f.written ≡ synced
  clean_written synced sure slot f h clean = omega (arith, h.synced_is, h.from, h.order, clean)

  -- a clean frame is taken away
  pub replaced_page : (synced : ℕ) (sure : Bool) (slot : Slot) (f : Framed) → IsFramedAt log page below synced sure slot f → IsClean f → IsStoredAt log page below synced slot
  replaced_page synced sure slot f h clean = record {
    stable = subst (IsStable log page below) (clean_written synced sure slot f h clean) h.stable;
    settled = h.settled clean;
  }

  -- a read of a page with no frame gives it as the log has it at the page_LSN last synced
  pub found_content : (pages synced : ℕ) (slot : Slot) (content : PageState) → IsLog pages log → IsStoredAt log page below synced slot → IsFound slot page content
      → content ≡ page_at log page synced
  found_content pages synced slot content is_log h found =
      block_of-injective page content (page_at log page synced) found.possible (IsPageState-page_at pages log page synced is_log)
      (sym (one_readable slot (image_of log page synced) (block_of page content) h.settled found.given))

  -- and it is a page of the log
  pub not_bad : (pages synced : ℕ) (slot : Slot) → IsLog pages log → IsStoredAt log page below synced slot → IsBad slot page → ⊥
  not_bad pages synced slot is_log h bad =
      let is : bad.block ≡ image_of log page synced = sym (one_readable slot (image_of log page synced) bad.block h.settled bad.given) in
      bad.no_page (page_at log page synced) (IsPageState-page_at pages log page synced is_log) is

  pub not_bad_below : (pages synced end : ℕ) (slot : Slot) → IsLog pages log → end_of log ≤ end → IsStoredAt log page below synced slot → IsBadBelow slot page end → ⊥
  not_bad_below pages synced end slot is_log le h bad =
      let is : bad.block ≡ image_of log page synced = sym (one_readable slot (image_of log page synced) bad.block h.settled bad.given) in
      let past : end ≤ (page_at log page synced).lsn = bad.no_page (page_at log page synced) (IsPageState-page_at pages log page synced is_log) is in
      omega (arith, past, le, h.stable.own, h.stable.inside)

  -- a page is made resident
  pub loaded_page : (synced : ℕ) (sure : Bool) (slot : Slot) (content : PageState) → content ≡ page_at log page synced → IsStoredAt log page below synced slot
      → IsFramedAt log page below synced sure slot (clean_frame page content)
  loaded_page synced sure slot content is h =
      let lsn : content.lsn ≡ synced = ap (λ (p : PageState). p.lsn) is ∙ h.stable.own in
      let image : image_of log page synced ≡ image_of log page content.lsn = ap (image_of log page) (sym lsn) in
      let from : synced ≤ synced = omega arith in
      record {
        synced_is = lsn;
        last = h.stable;
        since = [];
        oldest = ap (λ (s : Slot). s.candidates) h.settled;
        from = omega (arith, lsn);
        order = omega arith;
        inside = omega (arith, lsn, h.stable.inside);
        content = is ∙ ap (page_at log page) (sym lsn);
        stable = subst (IsStable log page below) (sym lsn) h.stable;
        candidates = images_one synced synced slot from h.stable h.settled;
        settled = λ _. h.settled;
        readable = λ _ x has. sym (one_readable slot (image_of log page synced) x h.settled has) ∙ image;
      }

  -- a change of a page is redone
  pub redone_page : (pages synced : ℕ) (sure : Bool) (slot : Slot) (f : Framed) (change : Change) (rest : List Change) → IsLog pages log
      → changes_above log page f.content.lsn ≡ change ∷ rest → IsFramedAt log page below synced sure slot f
      → IsFramedAt log page below synced sure slot (record f { content = redone f.content change })
  redone_page pages synced sure slot f change rest is_log next h =
      let passed : PassesOne log page f.content.lsn change rest = changes_above-cons log page f.content.lsn change rest is_log.laid_out next in
      let above : IsChangeAbove page f.content.lsn (end_of log) change = changes_above-head log page f.content.lsn change rest is_log.laid_out next in
      record {
        synced_is = h.synced_is;
        last = h.last;
        since = h.since;
        oldest = h.oldest;
        from = h.from;
        order = omega (arith, h.order, passed.rises);
        inside = above.last;
        content = ap (λ p. redone p change) h.content ∙ sym passed.page_then;
        stable = h.stable;
        candidates = h.candidates;
        settled = λ clean. absurd (omega (arith, clean, h.synced_is, h.from, h.order, passed.rises));
        readable = h.readable;
      }

  -- the page as it is now is a stable image
  now_stable : (synced : ℕ) (sure : Bool) (slot : Slot) (f : Framed) → f.content.lsn < below → IsFramedAt log page below synced sure slot f → IsStable log page below f.content.lsn
  now_stable synced sure slot f lt h = record { own = sym (ap (λ (p : PageState). p.lsn) h.content); inside = h.inside; stable = inr lt }

  -- a content that is new is that of the page as it is now
  now_image : (synced : ℕ) (sure : Bool) (slot : Slot) (f : Framed) (x : List ℕ) → f.content.lsn < below → IsFramedAt log page below synced sure slot f
      → Contains slot.candidates x ⊎ (block_of page f.content ≡ x) → IsImageOf log page below synced x
  now_image synced sure slot f x lt h (inl has) = h.candidates x has
  now_image synced sure slot f x lt h (inr is) = record {
    lsn = f.content.lsn;
    from = omega (arith, h.from, h.order);
    stable = now_stable synced sure slot f lt h;
    spelled = sym is ∙ ap (block_of page) h.content;
  }

  not_clean : (synced : ℕ) (sure : Bool) (slot : Slot) (f : Framed) → f.written ≢ f.content.lsn → IsFramedAt log page below synced sure slot f → IsClean f → ⊥
  not_clean synced sure slot f due h clean = due (omega (arith, clean_written synced sure slot f h clean, clean, h.synced_is))

  -- a page is written
  pub written_page : (synced : ℕ) (sure : Bool) (old new : Slot) (f : Framed) → f.content.lsn < below → f.written ≢ f.content.lsn → new ≡ written old (block_of page f.content)
      → IsFramedAt log page below synced sure old f → IsFramedAt log page below synced sure new (record f { written = f.content.lsn })
  written_page synced sure old new f lt due is h = record {
    synced_is = h.synced_is;
    last = h.last;
    since = h.since ++ block_of page f.content ∷ [];
    oldest = ap (λ (s : Slot). s.candidates) is ∙ ap (λ cs. cs ++ block_of page f.content ∷ []) h.oldest;
    from = omega (arith, h.from, h.order);
    order = omega arith;
    inside = h.inside;
    content = h.content;
    stable = now_stable synced sure old f lt h;
    candidates = λ x has. now_image synced sure old f x lt h (candidates-write old new (block_of page f.content) x is has);
    settled = λ clean. absurd (not_clean synced sure old f due h clean);
    readable = λ _ x has. sym (readable-write old new (block_of page f.content) x is has) ∙ ap (block_of page) h.content;
  }

  -- a failed write leaves the oldest candidate
  kept_oldest : (old new : Slot) (content first : List ℕ) (since : List (List ℕ)) → FailsToWrite old new content → old.candidates ≡ first ∷ since
      → (since' : List (List ℕ)) × (new.candidates ≡ first ∷ since')
  kept_oldest old new content first since (inl same) is = (since, ap (λ (s : Slot). s.candidates) same ∙ is)
  kept_oldest old new content first since (inr (inl in_doubt)) is = (since ++ content ∷ [], ap (λ (s : Slot). s.candidates) in_doubt ∙ ap (λ cs. cs ++ content ∷ []) is)
  kept_oldest old new content first since (inr (inr done)) is = (since ++ content ∷ [], ap (λ (s : Slot). s.candidates) done ∙ ap (λ cs. cs ++ content ∷ []) is)

  -- a write of a page has failed
  pub unwritten_page : (synced : ℕ) (sure : Bool) (old new : Slot) (f : Framed) → f.content.lsn < below → f.written ≢ f.content.lsn → FailsToWrite old new (block_of page f.content)
      → IsFramedAt log page below synced sure old f → IsFramedAt log page below synced false new f
  unwritten_page synced sure old new f lt due fails h = record {
    synced_is = h.synced_is;
    last = h.last;
    since = (kept_oldest old new (block_of page f.content) (image_of log page synced) h.since fails h.oldest).0;
    oldest = (kept_oldest old new (block_of page f.content) (image_of log page synced) h.since fails h.oldest).1;
    from = h.from;
    order = h.order;
    inside = h.inside;
    content = h.content;
    stable = h.stable;
    candidates = λ x has. now_image synced sure old f x lt h (candidates-fail old new (block_of page f.content) x fails has);
    settled = λ clean. absurd (not_clean synced sure old f due h clean);
    readable = λ yes' x has. absurd (true≢false (sym yes'));
  }

  -- a write of another page has failed
  pub unsure_page : (synced : ℕ) (sure : Bool) (slot : Slot) (o : Option Framed) → IsPageAt log page below synced sure slot o → IsPageAt log page below synced false slot o
  unsure_page synced sure slot None h = record { stable = h.stable; settled = h.settled }
  unsure_page synced sure slot (Some f) h = record {
    synced_is = h.synced_is;
    last = h.last;
    since = h.since;
    oldest = h.oldest;
    from = h.from;
    order = h.order;
    inside = h.inside;
    content = h.content;
    stable = h.stable;
    candidates = h.candidates;
    settled = h.settled;
    readable = λ yes' x has. absurd (true≢false (sym yes'));
  }

  -- the device was synced
  pub synced_page : (synced : ℕ) (sure : Bool) (old new : Slot) (o : Option Framed) → IsTrue sure → KeepsReadable old new → IsPageAt log page below synced sure old o
      → IsPageAt log page below (written_or o synced) sure new (option_map synced_frame o)
  synced_page synced sure old new None yes' keeps h =
      let is : keeps.content ≡ image_of log page synced = sym (one_readable old (image_of log page synced) keeps.content h.settled keeps.was_readable) in
      record { stable = h.stable; settled = keeps.left ∙ ap only is }
  synced_page synced sure old new (Some f) yes' keeps h =
      let left : new ≡ only (image_of log page f.written) = keeps.left ∙ ap only (h.readable yes' keeps.content keeps.was_readable) in
      let from : f.written ≤ f.written = omega arith in
      record {
        synced_is = refl;
        last = h.stable;
        since = [];
        oldest = ap (λ (s : Slot). s.candidates) left;
        from = from;
        order = h.order;
        inside = h.inside;
        content = h.content;
        stable = h.stable;
        candidates = images_one f.written f.written new from h.stable left;
        settled = λ _. left;
        readable = λ _ x has. sym (one_readable new (image_of log page f.written) x left has);
      }

  -- the block spells the page_LSN of the image last synced
  pub oldest_image : (synced : ℕ) (sure : Bool) (slot : Slot) (o : Option Framed) → IsPageAt log page below synced sure slot o
      → (synced_content slot ≡ image_of log page synced) × IsStable log page below synced
  oldest_image synced sure slot None h = (ap synced_content h.settled, h.stable)
  oldest_image synced sure slot (Some f) h = (ap (λ cs. get_or cs 0 []) h.oldest, h.last)

  pub spelled : (pages synced : ℕ) (sure : Bool) (slot : Slot) (o : Option Framed) → IsLog pages log → IsPageAt log page below synced sure slot o → spelled_lsn (synced_content slot) ≡ synced
  unfolding spelled_lsn
  spelled pages synced sure slot o is_log h =
      let (is, stable) = oldest_image synced sure slot o h in
      ap spelled_lsn is ∙ big_number-block_of page (page_at log page synced) (IsPageState-page_at pages log page synced is_log) ∙ stable.own

-- ---- more of the log

module _ (log : List Record) (r : Record) (page : ℕ) (placed : r.lsn.0 ≡ end_of log) (longer : end_of log ≤ end_of (log ++ r ∷ [])) where
  same_image : (lsn : ℕ) → lsn < end_of log → page_at log page lsn ≡ page_at (log ++ r ∷ []) page lsn
  same_image lsn lt = sym (page_at-push log r page lsn (omega (arith, lt, placed)))

  pushed_stable : (below lsn : ℕ) → IsStable log page below lsn → IsStable (log ++ r ∷ []) page below lsn
  pushed_stable below lsn h = record {
    own = ap (λ (p : PageState). p.lsn) (sym (same_image lsn h.inside)) ∙ h.own;
    inside = omega (arith, h.inside, longer);
    stable = h.stable;
  }

  pushed_image : (below synced : ℕ) (x : List ℕ) → IsImageOf log page below synced x → IsImageOf (log ++ r ∷ []) page below synced x
  pushed_image below synced x h = record {
    lsn = h.lsn;
    from = h.from;
    stable = pushed_stable below h.lsn h.stable;
    spelled = h.spelled ∙ ap (block_of page) (same_image h.lsn h.stable.inside);
  }

  -- a record is appended
  pub pushed_page : (below synced : ℕ) (sure : Bool) (slot : Slot) (o : Option Framed) → IsPageAt log page below synced sure slot o → IsPageAt (log ++ r ∷ []) page below synced sure slot o
  pushed_page below synced sure slot None h = record {
    stable = pushed_stable below synced h.stable;
    settled = h.settled ∙ ap (λ p. only (block_of page p)) (same_image synced h.stable.inside);
  }
  pushed_page below synced sure slot (Some f) h =
      let low : synced < end_of log = omega (arith, h.from, h.stable.inside) in
      record {
        synced_is = h.synced_is;
        last = pushed_stable below synced h.last;
        since = h.since;
        oldest = h.oldest ∙ ap (λ p. block_of page p ∷ h.since) (same_image synced low);
        from = h.from;
        order = h.order;
        inside = omega (arith, h.inside, longer);
        content = h.content ∙ same_image f.content.lsn h.inside;
        stable = pushed_stable below f.written h.stable;
        candidates = λ x has. pushed_image below synced x (h.candidates x has);
        settled = λ clean. h.settled clean ∙ ap (λ p. only (block_of page p)) (same_image synced low);
        readable = λ yes' x has. h.readable yes' x has ∙ ap (block_of page) (same_image f.written h.stable.inside);
      }

-- ---- more of the log survives each crash

module _ (log : List Record) (page below more : ℕ) (le : below ≤ more) where
  raised_stable : (lsn : ℕ) → IsStable log page below lsn → IsStable log page more lsn
  raised_stable lsn h = record { own = h.own; inside = h.inside; stable = raised h.stable }
    where
      raised : (lsn ≡ 0) ⊎ (lsn < below) → (lsn ≡ 0) ⊎ (lsn < more)
      raised (inl none) = inl none
      raised (inr lt) = inr (omega (arith, lt, le))

  raised_image : (synced : ℕ) (x : List ℕ) → IsImageOf log page below synced x → IsImageOf log page more synced x
  raised_image synced x h = record { lsn = h.lsn; from = h.from; stable = raised_stable h.lsn h.stable; spelled = h.spelled }

  pub raised_page : (synced : ℕ) (sure : Bool) (slot : Slot) (o : Option Framed) → IsPageAt log page below synced sure slot o → IsPageAt log page more synced sure slot o
  raised_page synced sure slot None h = record { stable = raised_stable synced h.stable; settled = h.settled }
  raised_page synced sure slot (Some f) h = record {
    synced_is = h.synced_is;
    last = raised_stable synced h.last;
    since = h.since;
    oldest = h.oldest;
    from = h.from;
    order = h.order;
    inside = h.inside;
    content = h.content;
    stable = raised_stable f.written h.stable;
    candidates = λ x has. raised_image synced x (h.candidates x has);
    settled = h.settled;
    readable = h.readable;
  }
