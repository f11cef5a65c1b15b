use Rattle.als_pool.proofs.Bounding.{can_follow}
use Rattle.als_pool.proofs.laws.change_can_follow.Goals as goal

pub returns : goal.returns
returns c log pool r change h is_log at is count = can_follow log pool r change h is_log at is count
