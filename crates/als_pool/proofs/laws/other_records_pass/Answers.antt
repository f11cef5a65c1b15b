use Rattle.als_pool.proofs.Keeping.{keeps_other}
use Rattle.als_pool.proofs.laws.other_records_pass.Goals as goal

pub returns : goal.returns
returns c log below pool r is_log at none h = keeps_other log below pool r is_log at none h
