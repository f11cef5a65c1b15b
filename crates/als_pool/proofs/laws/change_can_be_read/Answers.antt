use Rattle.als_pool.proofs.Restarting.{can_read}
use Rattle.als_pool.proofs.laws.change_can_be_read.Goals as goal

pub returns : goal.returns
returns c front r change position rows pool h queues is_log at is le count = can_read position rows front r change pool h queues is_log at is le count
