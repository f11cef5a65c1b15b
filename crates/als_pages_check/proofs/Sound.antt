-- A page that agrees with what is known of it is sound, and no other.
use Rattle.std.proofs.Common.{◌≡◌, ℕ, ◌<◌, List, sym, ap, subst, ◌∙◌, arith, inr}
use Rattle.als_record.specs.declared.record.Record.{Record}
use Rattle.als_record.specs.LogText.{end_of, IsLog}
use Rattle.als_record.specs.Pages.{IsPageState, page_at, changes_above}
use Rattle.als_record.proofs.PageLaws.{IsPageState-page_at}
use Rattle.als_page.specs.Block.{block_of}
use Rattle.als_page.proofs.BlockLaws.{big_number-block_of}
use Rattle.als_frames.specs.Images.{image_of, spelled_lsn}
use Rattle.als_pages_check.specs.declared.page_check.PageCheck.{PageCheck}
use Rattle.als_pages_check.specs.Checked.{repeated, AllFrom, IsChecked, HasAgreed, IsSound}
use Rattle.als_pages_check.proofs.Ends.{lsn-below}

module _ (pages : ℕ) (log : List Record) (is_log : IsLog pages log) (page : ℕ) (c : PageCheck) (h : IsChecked log page c) where
  -- the image of a page spells its page_LSN
  spells : (lsn : ℕ) → spelled_lsn (image_of log page lsn) ≡ (page_at log page lsn).lsn
  unfolding spelled_lsn
  spells lsn = big_number-block_of page (page_at log page lsn) (IsPageState-page_at pages log page lsn is_log)

  -- the block that history repeated makes
  repeated-block : block_of page (repeated c) ≡ image_of log page c.page_lsn.0
  repeated-block = ap (block_of page) (h.is_repeated pages is_log)

  pub repeated-state : IsPageState (repeated c)
  repeated-state = subst IsPageState (sym (h.is_repeated pages is_log)) (IsPageState-page_at pages log page c.page_lsn.0 is_log)

  pub agreed-sound : HasAgreed page c → IsSound log page c
  agreed-sound agreed =
      let is : c.block ≡ image_of log page c.page_lsn.0 = sym agreed.0 ∙ repeated-block in
      let own : (page_at log page c.page_lsn.0).lsn ≡ c.page_lsn.0 = sym (spells c.page_lsn.0) ∙ ap spelled_lsn (sym is) ∙ sym h.spelled in
      let below : (page_at log page c.page_lsn.0).lsn < end_of log = lsn-below log page c.page_lsn.0 is_log.laid_out in
      let inside : c.page_lsn.0 < end_of log = omega (arith, own, below) in
      record {
        lsn = c.page_lsn.0;
        stable = record { own = own; inside = inside; stable = inr inside };
        spelled = is;
        lacks = h.none agreed.1;
      }

  pub sound-agreed : IsSound log page c → HasAgreed page c
  sound-agreed sound =
      let same : c.page_lsn.0 ≡ sound.lsn = h.spelled ∙ ap spelled_lsn sound.spelled ∙ spells sound.lsn ∙ sound.stable.own in (
        repeated-block ∙ ap (image_of log page) same ∙ sym sound.spelled,
        h.some (subst (λ (n : ℕ). AllFrom c.redone_from.0 (changes_above log page n)) (sym same) sound.lacks),
      )
