use Rattle.std.proofs.Common.{ap, arith}
use Rattle.als_lookback.specs.Judged.{position_of}
use Rattle.als_lookback.proofs.JudgeLaws.{end-nil}
use Rattle.als_backup.proofs.Texts.{new_text}
use Rattle.als_backup.proofs.text.Text.new.Goals as goal

pub invariant_of-result : goal.invariant_of-result
invariant_of-result c =
    new_text c.in_ok-judge.judge c.new-summing.result c.add.new.self c.args.pages c.encode.result c.in_ok-judge.ensures.ok c.new-summing.ensures.sums c.add.ensures.sums c.encode.ensures

pub returns-clause-begins : goal.returns-clause-begins
returns-clause-begins c = omega (arith, ap position_of c.in_ok-judge.ensures.ok, end-nil)
