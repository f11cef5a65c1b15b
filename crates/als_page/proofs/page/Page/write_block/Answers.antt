use Rattle.std.proofs.Common.{◌≡◌, ℕ, length, replicate, sym, ◌∙◌, ap, subst, arith}
use Rattle.als_record.specs.Pages.{IsPageState}
use Rattle.als_record.proofs.PageLaws.{IsPageState-empty}
use Rattle.als_page.specs.Block.{block_of}
use Rattle.als_page.proofs.BlockLaws.{block_of-empty, block_of-parts, is_page_lsn-zero, is_page_lsn-above}
use Rattle.als_page.proofs.page.Page.write_block.Goals as goal

pub returns-then-self-eq0-clause-written : goal.returns-then-self-eq0-clause-written
returns-then-self-eq0-clause-written c =
    let page = c.args.self.now in
    let len : length page.slots ≡ 15 = page.count in
    let size : length c.args.into.now ≡ 512 = omega arith in
    c.fill.ensures.after (λ y same. same) ∙ ap (λ (n : ℕ). replicate n 0) size
    ∙ sym (ap (block_of page.id) (is_page_lsn-zero page.lsn.0 page.slots page.written len c.if-self-eq0.true) ∙ block_of-empty page.id)

pub returns-then-self-eq0-clause-fits : goal.returns-then-self-eq0-clause-fits
returns-then-self-eq0-clause-fits c =
    let page = c.args.self.now in
    let len : length page.slots ≡ 15 = page.count in
    subst IsPageState (sym (is_page_lsn-zero page.lsn.0 page.slots page.written len c.if-self-eq0.true)) IsPageState-empty

pub returns-clause-written : goal.returns-clause-written
returns-clause-written c =
    let page = c.args.self.now in
    block_of-parts page.id page.lsn.0 page.slots c.write_head.new.into c.write_slots.new.into (is_page_lsn-above page.lsn.0 page.slots page.written c.if-self-eq0.false)
    c.write_head.ensures c.write_slots.ensures.written
