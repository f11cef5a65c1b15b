use Rattle.als_pool.proofs.Bounding.{ends-more, ends-other, ends-of, ends-reads}
use Rattle.als_pool.proofs.laws.pool_ends_below.Goals as goal

pub returns-clause-more : goal.returns-clause-more
returns-clause-more c end more pool le h = ends-more end more pool le h

pub returns-clause-other : goal.returns-clause-other
returns-clause-other c log r pool h = ends-other log r pool h

pub returns-clause-of : goal.returns-clause-of
returns-clause-of c log below pool h = ends-of log below pool h

pub returns-clause-reads : goal.returns-clause-reads
returns-clause-reads c front position rows pool is_log h queues = ends-reads front position rows pool is_log h queues
