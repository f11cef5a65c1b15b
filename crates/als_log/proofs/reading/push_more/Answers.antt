use Rattle.std.proofs.Common.{◌<◌, length, ◌∙◌, arith}
use Rattle.als_log.proofs.reading.push_more.Goals as goal

pub returns-clause-part : goal.returns-clause-part
returns-clause-part g c text source near k lt =
    let inside : k < length c.seen.result.now = omega (arith, lt, c.push_part.ensures.within) in
    c.push_part.ensures.part k lt ∙ c.seen.ensures.text (g.D.BlockDisk.slot c.args.disk.now) text source (c.in_ok-bring.ensures.ok text source near) k inside
