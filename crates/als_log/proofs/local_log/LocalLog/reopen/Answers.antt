use Rattle.std.proofs.Common.{◌≡◌, ◌+◌, ◌*◌, ◌/◌, ◌%◌, sym, subst, ◌∙◌, arith}
use Rattle.als_record.specs.LogText.{log_text}
use Rattle.als_log.specs.History.{records_in}
use Rattle.als_log.specs.Texts.{AllHaveText}
use Rattle.als_log.proofs.Keeping.{held-reopened, length-text}
use Rattle.als_log.proofs.local_log.LocalLog.reopen.Goals as goal

pub invariant_of-result : goal.invariant_of-result
invariant_of-result g c =
    let log = records_in c.args.history in
    let slots = g.D.BlockDisk.slot c.args.disk in
    let place : c.args.end ≡ 512 * (c.args.end / 512) + c.args.end % 512 = omega arith in
    let stored = subst (λ n. AllHaveText (λ b. (slots b).readable) (log_text c.args.pages log) n) place c.requires.stored.stored in
    let bytes = c.in-Ok-read_front.ensures.ok (log_text c.args.pages log) stored (length-text c.args.pages log ∙ sym c.requires.end ∙ place) in
    rw c.read_front.ensures.count (held-reopened c.args.pages (g.D.BlockDisk.block_count c.args.disk) c.args.end log c.in-Ok-read_front.tail.items c.new-in-Ok-read_front.result slots (g.D.BlockDisk.slot c.read_front.new.disk) c.new-in-Ok-read_front.ensures.even c.new-in-Ok-read_front.ensures.odd c.requires.log c.requires.end c.requires.fits c.requires.few bytes c.read_front.ensures.same c.requires.stored c.requires.settled)
