use Rattle.als_ckpt.proofs.PartLaws.{settled_same}
use Rattle.als_ckpt.proofs.reading.read_said.Goals as goal

pub read_published-requires-clause-settled : goal.read_published-requires-clause-settled
read_published-requires-clause-settled g c = settled_same (g.D.BlockDisk.slot c.args.disk.now) (g.D.BlockDisk.slot c.read_state.new.disk) c.read_state.ensures.blocks c.requires.settled
