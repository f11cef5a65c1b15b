use Rattle.als_log.specs.History.{records_in}
use Rattle.als_lookback.proofs.JudgeLaws.{judge_new}
use Rattle.als_lookback.proofs.judge.Judge.new.Goals as goal

pub invariant_of-result : goal.invariant_of-result
invariant_of-result c = judge_new c.args.pages c.new-2.result c.in_ok-validator.validator (records_in c.new-3.result) c.new-2.ensures c.new-3.ensures c.in_ok-validator.ensures.ok c.in_ok-validator.ensures.judging
