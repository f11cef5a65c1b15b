use Rattle.als_pool.proofs.NextFlag.{next_some, next_none}
use Rattle.als_pool.proofs.queues.next_flag.Goals as goal

pub returns-in-Some : goal.returns-in-Some
returns-in-Some c = next_some c.args.flags.now.items c.tail.result.now c.args.from c.tail.ensures c.in-Some.found c.in-Some.ensures

pub returns-in-None : goal.returns-in-None
returns-in-None c = next_none c.args.flags.now.items c.tail.result.now c.args.from c.tail.ensures c.in-None.ensures
