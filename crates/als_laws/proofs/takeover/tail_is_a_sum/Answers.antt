use Rattle.als_record.proofs.TailLength.{tail_len-is}
use Rattle.als_laws.proofs.takeover.tail_is_a_sum.Goals as goal

pub returns : goal.returns
returns c log = tail_len-is log
