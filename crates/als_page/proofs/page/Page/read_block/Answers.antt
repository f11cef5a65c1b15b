use Rattle.std.proofs.Common.{◌≡◌, ℕ, List, take, drop, Some, None, refl, sym, ◌∙◌, ap, ap₂, subst, arith, take-append-drop}
use Rattle.std.proofs.lemmas.Bool.{both_ways}
use Rattle.std.specs.List.{flat_map}
use Rattle.als_record.specs.Spelling.{Image}
use Rattle.als_record.specs.Pages.{PageState, IsPageState}
use Rattle.als_record.proofs.PageLaws.{IsPageState-empty}
use Rattle.als_page.specs.Block.{slot_bytes, block_of, head_bytes}
use Rattle.als_page.proofs.BlockLaws.{block_of-empty, block_of-parts, block_of-lsn, block_of-below, block_of-above}
use Rattle.als_page.proofs.page.Page.read_block.Goals as goal

pub returns-then-is_zero-clause-found : goal.returns-then-is_zero-clause-found
returns-then-is_zero-clause-found c = (
  c.empty.ensures.number,
  c.is_zero.ensures.0 c.if-is_zero.true ∙ sym (ap (block_of c.args.id) c.empty.ensures.state ∙ block_of-empty c.args.id),
  subst IsPageState (sym c.empty.ensures.state) IsPageState-empty,
)

pub returns-then-is_zero-clause-only : goal.returns-then-is_zero-clause-only
returns-then-is_zero-clause-only c page h is =
    let (empty, zeros) = block_of-below c.args.id c.read_u64.result c.args.block.now page h is c.read_u64.ensures c.if-lsn-lt16.true in
    (c.empty.ensures.number, c.empty.ensures.state ∙ sym empty)

pub returns-else-is_zero-clause-only : goal.returns-else-is_zero-clause-only
returns-else-is_zero-clause-only c page h is =
    let (empty, zeros) = block_of-below c.args.id c.read_u64.result c.args.block.now page h is c.read_u64.ensures c.if-lsn-lt16.true in
    both_ways c.is_zero.result c.if-is_zero.false (c.is_zero.ensures.1 zeros)

pub returns-then-not-is_head-clause-only : goal.returns-then-not-is_head-clause-only
returns-then-not-is_head-clause-only c page h is =
    let (head, slots) = block_of-above c.args.id c.read_u64.result c.args.block.now page h is c.read_u64.ensures c.if-lsn-lt16.false in
    both_ways c.is_head.result c.if-not-is_head.true (c.is_head.ensures.1 (c.split_at.ensures.front ∙ head))

pub returns-in-Some-clause-found : goal.returns-in-Some-clause-found
returns-in-Some-clause-found c =
    let lsn = c.read_u64.result in
    let head : take 32 c.args.block.now ≡ head_bytes lsn c.args.id = sym c.split_at.ensures.front ∙ c.is_head.ensures.0 c.if-not-is_head.false in
    let slots : drop 32 c.args.block.now ≡ flat_map slot_bytes c.in-Some.slots = sym c.split_at.ensures.back ∙ c.in-Some.ensures.found.0 in (
      refl,
      sym (take-append-drop 32 c.args.block.now) ∙ block_of-parts c.args.id lsn c.in-Some.slots (take 32 c.args.block.now) (drop 32 c.args.block.now) c.if-lsn-lt16.false head slots,
      record { width = omega arith; count = c.in-Some.ensures.found.1; images = c.in-Some.ensures.found.2; nothing = λ below. absurd (omega (arith, below, c.if-lsn-lt16.false)) },
    )

pub returns-in-Some-clause-only : goal.returns-in-Some-clause-only
returns-in-Some-clause-only c page h is =
    let (head, slots) = block_of-above c.args.id c.read_u64.result c.args.block.now page h is c.read_u64.ensures c.if-lsn-lt16.false in
    let same : Some c.in-Some.slots ≡ Some page.slots = c.in-Some.ensures.only page.slots h.count h.images (c.split_at.ensures.back ∙ slots) in
    let make : ℕ → List Image → PageState = λ n xs. record { lsn = n; slots = xs } in
    (refl, ap₂ make (block_of-lsn c.args.id c.read_u64.result c.args.block.now page h is c.read_u64.ensures) (cc same))

pub returns-in-None-clause-only : goal.returns-in-None-clause-only
returns-in-None-clause-only c page h is =
    let (head, slots) = block_of-above c.args.id c.read_u64.result c.args.block.now page h is c.read_u64.ensures c.if-lsn-lt16.false in
    let found : c.read_slots.result ≡ Some page.slots = c.read_slots.ensures.only page.slots h.count h.images (c.split_at.ensures.back ∙ slots) in
    let none : c.read_slots.result ≡ None = c.in-None.is in
    absurd (cc (found, none))
