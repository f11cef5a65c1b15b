use Rattle.als_rebuild.proofs.Settled.{settled_read}
use Rattle.als_rebuild.proofs.rebuilding.pages_of.Goals as goal

pub returns-in-Err-clause-settled : goal.returns-in-Err-clause-settled
returns-in-Err-clause-settled g c = settled_read (g.D.BlockDisk.slot c.args.log.now) (g.D.BlockDisk.slot c.read.new.self) c.read.ensures.blocks

pub returns-in-Ok-Some-clause-settled : goal.returns-in-Ok-Some-clause-settled
returns-in-Ok-Some-clause-settled g c = settled_read (g.D.BlockDisk.slot c.args.log.now) (g.D.BlockDisk.slot c.read.new.self) c.read.ensures.blocks

pub returns-in-Ok-None-2-clause-settled : goal.returns-in-Ok-None-2-clause-settled
returns-in-Ok-None-2-clause-settled g c = settled_read (g.D.BlockDisk.slot c.args.log.now) (g.D.BlockDisk.slot c.read.new.self) c.read.ensures.blocks
