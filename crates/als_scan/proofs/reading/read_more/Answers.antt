use Rattle.std.proofs.Common.{arith}
use Rattle.als_scan.proofs.TextLaws.{block_len}
use Rattle.als_scan.proofs.ReadingLaws.{reads_more}
use Rattle.als_scan.proofs.reading.read_more.Goals as goal

pub returns-clause-ok : goal.returns-clause-ok
returns-clause-ok g c text stands reads =
    let slots = g.D.BlockDisk.slot c.args.disk.now in
    let at = c.position-at.result in
    let size = c.min-size.result in
    let block = c.read.new.into in
    let has = c.in_ok-read.ensures.ok in
    let whole = block_len slots (g.met.D.BlockDisk.gives_candidates c.args.disk.now) (g.met.D.BlockDisk.holds_blocks c.args.disk.now) _ block has in
    reads_more slots text c.args.mark at size block c.args.judge.now c.push.new.self c.position-at.ensures stands has whole (omega (arith, c.min-size.ensures)) (omega (arith, c.min-size.ensures, c.requires.more, c.position-at.ensures)) c.in_ok-push.ensures.ok reads
