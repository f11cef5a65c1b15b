use Rattle.als_disk.specs.MemDisk.{mem_newest}
use Rattle.als_inspect.proofs.copying.settle.Goals as goal

pub returns-clause-settled : goal.returns-clause-settled
returns-clause-settled c = λ k. (mem_newest c.args.disk.now k, c.sync.ensures.newest k)
