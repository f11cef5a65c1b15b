use Rattle.als_pool.proofs.TakingIn.{taken_in}
use Rattle.als_pool.proofs.laws.a_log_is_taken_in.Goals as goal

pub returns : goal.returns
returns c log below old new held queues takes = taken_in log below old new held queues takes
