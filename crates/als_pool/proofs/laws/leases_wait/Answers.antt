use Rattle.als_pool.proofs.Ordering.{none_lent, none_counted}
use Rattle.als_pool.proofs.laws.leases_wait.Goals as goal

pub returns-clause-none : goal.returns-clause-none
returns-clause-none c pool page h none = none_lent pool page h none

pub returns-clause-count : goal.returns-clause-count
returns-clause-count c pool h none = none_counted pool h none
