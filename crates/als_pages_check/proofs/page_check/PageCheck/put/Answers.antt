use Rattle.std.proofs.Common.{ℕ, false, List, replicate, refl, ap, ◌∙◌}
use Rattle.byteorder.specs.Endian.{big_number}
use Rattle.als_record.specs.Spelling.{Image}
use Rattle.als_record.specs.Pages.{PageState}
use Rattle.als_pages_check.proofs.CheckLaws.{spelled-first}
use Rattle.als_pages_check.proofs.page_check.PageCheck.put.Goals as goal

pub returns : goal.returns
returns c = record {
  added = record {
    block = c.args.block.now;
    page_lsn = record { 0 = c.read_u64.result };
    redone_from = c.args.redone_from;
    lacks = false;
    last = record { 0 = 0 };
    slots = replicate 15 c.absent.result;
  };
  is = c.in_ok-push.ensures.items;
  has = refl;
  starts = refl;
  spelled = spelled-first c.read_u64.result c.args.block.now (c.read_u64.ensures ∙ ap (λ (b : List ℕ). big_number 8 b) c.as_slice.ensures);
  none = refl;
  empty = ap (λ (i : Image). let s : PageState = record { lsn = 0; slots = replicate 15 i } in s) c.absent.ensures;
}
