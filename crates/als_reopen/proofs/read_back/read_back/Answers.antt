use Rattle.std.proofs.Common.{◌≡◌, ℕ, ◌*◌, List, Option, sym, ap, subst, ◌∙◌}
use Rattle.als_record.specs.declared.record.Record.{Record}
use Rattle.als_log.specs.Local.{Local}
use Rattle.als_ckpt_codec.specs.declared.checkpoint.Checkpoint.{Checkpoint}
use Rattle.als_ckpt.specs.Regions.{Said}
use Rattle.als_ckpt.specs.Holding.{HoldsControl}
use Rattle.als_pool.specs.Pooled.{Held}
use Rattle.als_pool.specs.Images.{IsPoolOf, QueuesOf}
use Rattle.als_pool.specs.Restart.{HoldsImagesFrom}
use Rattle.als_reopen.specs.Node.{position_of, rows_of}
use Rattle.als_reopen.specs.Outcomes.{said_now}
use Rattle.als_reopen.proofs.Nodes.{said_again, log_on}
use Rattle.als_reopen.proofs.WholeLogs.{one_log}
use Rattle.als_reopen.proofs.read_back.read_back.Goals as goal

pub returns-in-Ok-read_log-clause-only : goal.returns-in-Ok-read_log-clause-only
returns-in-Ok-read_log-clause-only g c n h =
    let log = g.D.BlockDisk.slot c.args.disks.log in
    let control = g.D.BlockDisk.slot c.args.disks.control in
    let pages = c.args.pages in
    let said = c.in-Ok.said in
    let read = c.in-Ok-read_log.read in
    let same = c.in-Ok.ensures.only n.said (subst (λ (k : ℕ). HoldsControl pages (512 * k) control n.said) (sym c.blocks-log_bytes.ensures) h.control) in
    let on = log_on pages (g.D.BlockDisk.block_count c.args.disks.log) log control n said.0 said.1 c.requires.settled_log h same.0 same.1 in
    let one = one_log pages read.log.log n.log c.in-Ok-read_log.ensures.ok.valid h.valid (sym c.in-Ok-read_log.ensures.text ∙ on.text_is) in
    let found : Said = record { state = said.0; checkpoint = said.1 } in
    let again : said_now c.reopen-control.result ≡ found = said_again pages _ _ _ _ found c.reopen-control.result c.in-Ok.ensures.ok.published c.reopen-control.ensures in
    let told : found ≡ n.said = λ j. record { state = same.0 j; checkpoint = same.1 j } in
    (ap (λ (l : Local). l.log) c.with_control.ensures.0 ∙ one, ap said_now c.with_control.ensures.1 ∙ again ∙ told)

pub returns-in-Ok-read_log-clause-warm : goal.returns-in-Ok-read_log-clause-warm
returns-in-Ok-read_log-clause-warm g c n node =
    let h = node.held in
    let log = g.D.BlockDisk.slot c.args.disks.log in
    let control = g.D.BlockDisk.slot c.args.disks.control in
    let pages = c.args.pages in
    let said = c.in-Ok.said in
    let read = c.in-Ok-read_log.read in
    let mark = n.said.state.mark.0 in
    let same = c.in-Ok.ensures.only n.said (subst (λ (k : ℕ). HoldsControl pages (512 * k) control n.said) (sym c.blocks-log_bytes.ensures) h.control) in
    let on = log_on pages (g.D.BlockDisk.block_count c.args.disks.log) log control n said.0 said.1 c.requires.settled_log h same.0 same.1 in
    let one = one_log pages read.log.log n.log c.in-Ok-read_log.ensures.ok.valid h.valid (sym c.in-Ok-read_log.ensures.text ∙ on.text_is) in
    let images = c.in-Ok-read_log.ensures.images n.log mark
    (subst (λ (o : Option Checkpoint). HoldsImagesFrom n.log mark pages (position_of o) (rows_of o) (g.D.BlockDisk.slot c.args.disks.pages)) (sym same.1) node.images) in
    let queues = subst (λ (l : List Record). QueuesOf l read.pool.pool) one c.in-Ok-read_log.ensures.ok.queues in
    subst (λ (p : Held). IsPoolOf n.log mark p.pool) (sym c.with_control.ensures.2) (c.queues_join_images.ensures.opened n.log mark read.pool.pool images queues)

pub returns-clause-bare : goal.returns-clause-bare
returns-clause-bare g c n h =
    let log = g.D.BlockDisk.slot c.args.disks.log in
    let control = g.D.BlockDisk.slot c.args.disks.control in
    let pages = c.args.pages in
    let said = c.in-Ok.said in
    let same = c.in-Ok.ensures.only n.said (subst (λ (k : ℕ). HoldsControl pages (512 * k) control n.said) (sym c.blocks-log_bytes.ensures) h.control) in
    c.in-Err-read_log.ensures.bare n.log (log_on pages (g.D.BlockDisk.block_count c.args.disks.log) log control n said.0 said.1 c.requires.settled_log h same.0 same.1)
