-- Nodes without a checkpoint, whose pages are made anew; and what of the log device a node is.
use Rattle.std.proofs.Common.{◌≡◌, ℕ, ◌*◌, ◌<◌, ◌≤◌, List, [], ◌∷◌, None, refl, sym, ap, subst, ◌∙◌, inl, arith}
use Rattle.std.specs.Prelude.{Contains}
use Rattle.std.specs.List.{AllByRecursion}
use Rattle.als_record.specs.declared.change.Change.{Change}
use Rattle.als_record.specs.declared.lsn.Lsn.{Lsn}
use Rattle.als_record.specs.declared.record.Record.{Record}
use Rattle.als_record.specs.declared.rows.LoggedPage.{LoggedPage}
use Rattle.als_record.specs.LogText.{end_of, log_text, IsLog}
use Rattle.als_record.specs.Pages.{PageState, empty_page, page_at, changes_above, IsChangeAbove}
use Rattle.als_record.proofs.LogLaws.{end_of_is}
use Rattle.als_record.proofs.PageLaws.{page_at-start, changes_above-each}
use Rattle.als_disk.specs.Slot.{Slot, only}
use Rattle.als_disk.specs.SlotLaws.{Contains-one}
use Rattle.als_disk.specs.Store.{zeros}
use Rattle.als_frames.specs.Images.{image_of, IsStoredAt}
use Rattle.als_frames.proofs.Keeping.{empty_log, empty_stored}
use Rattle.als_log.specs.Texts.{AllHaveText}
use Rattle.als_ckpt.specs.Holding.{HoldsControl}
use Rattle.als_ckpt.specs.Again.{unpublished}
use Rattle.als_pool.specs.Restart.{start_of, HoldsImagesFrom, IsImageFrom}
use Rattle.als_reopen.specs.Node.{Node, HoldsLog, IsNode, position_of, rows_of, position_in, rows_in}
use Rattle.als_reopen.specs.Taken.{IsTakenFrom}
use Rattle.als_reopen.specs.Again.{unchecked}

-- ---- each change stands behind the header

from_first : (page lsn end : ℕ) (cs : List Change) → AllByRecursion (IsChangeAbove page lsn end) cs → AllByRecursion (λ c. 16 ≤ c.lsn.0) cs
from_first page lsn end [] h = tt
from_first page lsn end (c ∷ cs) h = (h.0.first, from_first page lsn end cs h.1)

module _ (log : List Record) (pages : ℕ) (is_log : IsLog pages log) (page : ℕ) where
  -- so no page lacks a change of the log from before the first record
  lacks_none : (lsn : ℕ) → AllByRecursion (λ c. (start_of (position_of None) (rows_of None) page).0 ≤ c.lsn.0) (changes_above log page lsn)
  lacks_none lsn = from_first page lsn (end_of log) (changes_above log page lsn) (changes_above-each log page lsn is_log.laid_out)

  -- a page that was laid out has no change
  no_change : page_at log page 0 ≡ empty_page
  no_change = page_at-start log page 0 is_log.laid_out (omega arith)

  same-image : image_of log page 0 ≡ image_of [] page 0
  same-image = rw (no_change, page_at-start [] page 0 (empty_log pages).laid_out (omega arith)) refl

  laid_out : (below : ℕ) → zeros ≡ image_of log page 0
  laid_out below =
      let stored : IsStoredAt [] page below 0 (only zeros) = empty_stored page below (only zeros) refl in
      let one : Contains (only (image_of [] page 0)).candidates zeros = subst (λ (s : Slot). Contains s.candidates zeros) stored.settled (0, omega arith, refl) in
      sym (Contains-one one) ∙ sym same-image

  pub zeros-image : (below : ℕ) (content : List ℕ) → content ≡ zeros → IsImageFrom log page below (start_of (position_of None) (rows_of None) page) content
  zeros-image below content is = record {
    lsn = 0;
    stable = record {
      own = ap (λ (s : PageState). s.lsn) no_change;
      inside = omega (arith, end_of_is log);
      stable = inl refl;
    };
    spelled = is ∙ laid_out below;
    lacks = lacks_none 0;
  }

  -- a block that lacks no change from before where a restart looked
  pub image-from_first : (below : ℕ) (from : Lsn) (content : List ℕ) → IsImageFrom log page below from content
      → IsImageFrom log page below (start_of (position_of None) (rows_of None) page) content
  image-from_first below from content h = record { lsn = h.lsn; stable = h.stable; spelled = h.spelled; lacks = lacks_none h.lsn }

-- ---- the blocks of all pages

module _ (log : List Record) (below pages : ℕ) (is_log : IsLog pages log) (slots : ℕ → Slot) where
  pub zeros-images : ((page : ℕ) → page < pages → slots page ≡ only zeros) → HoldsImagesFrom log below pages (position_of None) (rows_of None) slots
  zeros-images all = record {
    is_log = is_log;
    reached = omega (arith, end_of_is log);
    listed = tt;
    settled = λ page lt. (zeros, all page lt);
    images = λ page content lt has.
        zeros-image log pages is_log page below content (sym (Contains-one (subst (λ (s : Slot). Contains s.candidates content) (all page lt) has)));
  }

  pub images-from_first : (position : Lsn) (rows : List LoggedPage) → HoldsImagesFrom log below pages position rows slots
      → HoldsImagesFrom log below pages (position_of None) (rows_of None) slots
  images-from_first position rows h = record {
    is_log = is_log;
    reached = omega (arith, end_of_is log);
    listed = tt;
    settled = h.settled;
    images = λ page content lt has. image-from_first log pages is_log page below (start_of position rows page) content (h.images page content lt has);
  }

-- ---- the node

module _ (pages blocks : ℕ) (log old new : ℕ → Slot) (n : Node) (h : HoldsLog pages blocks log old n) where
  -- the control device says the same
  pub HoldsLog-said : HoldsControl pages (512 * blocks) new n.said → HoldsLog pages blocks log new n
  HoldsLog-said says = record { count = h.count; control = says; text = h.text; ends = h.ends; valid = h.valid; fits = h.fits; front = h.front }

  -- it publishes no checkpoint
  pub HoldsLog-unchecked : HoldsControl pages (512 * blocks) new (unpublished n.said) → HoldsLog pages blocks log new (unchecked n)
  HoldsLog-unchecked says = record { count = h.count; control = says; text = h.text; ends = h.ends; valid = h.valid; fits = h.fits; front = tt }

  -- and the pages are those of a log of which nothing was redone
  pub IsNode-laid_out : (images : ℕ → Slot) → IsTakenFrom n.log n.said.state → HoldsControl pages (512 * blocks) new (unpublished n.said)
      → ((page : ℕ) → page < pages → images page ≡ only zeros) → IsNode pages blocks log new images (unchecked n)
  IsNode-laid_out images taken says all = record {
    held = HoldsLog-unchecked says;
    taken = taken;
    images = zeros-images n.log n.said.state.mark.0 pages h.valid.text images all;
  }

-- or they are as they were
pub IsNode-unchecked : (pages blocks : ℕ) (log old new images : ℕ → Slot) (n : Node) → IsNode pages blocks log old images n → HoldsControl pages (512 * blocks) new (unpublished n.said)
    → IsNode pages blocks log new images (unchecked n)
IsNode-unchecked pages blocks log old new images n h says = record {
  held = HoldsLog-unchecked pages blocks log old new n h.held says;
  taken = h.taken;
  images = images-from_first n.log n.said.state.mark.0 pages h.held.valid.text images (position_in n.said) (rows_in n.said) h.images;
}

-- ---- what of the log device a node is

text_below : (mark : ℕ) (log other : ℕ → Slot) (text : List ℕ) (end : ℕ) → end ≡ mark → ((b : ℕ) → 512 * b < mark → other b ≡ log b)
    → AllHaveText (λ b. (log b).candidates) text end → AllHaveText (λ b. (other b).candidates) text end
text_below mark log other text end ends same h b x has o lt under =
    let below : 512 * b < mark = omega (arith, under, ends) in
    h b x (subst (λ (s : Slot). Contains s.candidates x) (same b below) has) o lt under

pub IsNode-below : (pages blocks : ℕ) (log other control images : ℕ → Slot) (n : Node) → ((b : ℕ) → 512 * b < n.said.state.mark.0 → other b ≡ log b)
    → IsNode pages blocks log control images n → IsNode pages blocks other control images n
IsNode-below pages blocks log other control images n same h = record {
  held = record {
    count = h.held.count;
    control = h.held.control;
    text = text_below n.said.state.mark.0 log other (log_text pages n.log) (end_of n.log) h.held.ends same h.held.text;
    ends = h.held.ends;
    valid = h.held.valid;
    fits = h.held.fits;
    front = h.held.front;
  };
  taken = h.taken;
  images = h.images;
}
