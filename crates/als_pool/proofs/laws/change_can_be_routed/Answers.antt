use Rattle.als_pool.proofs.PoolLaws.{can_route}
use Rattle.als_pool.proofs.laws.change_can_be_routed.Goals as goal

pub returns : goal.returns
returns c log below pool r change h is_log at is count = can_route log below pool r change h is_log at is count
