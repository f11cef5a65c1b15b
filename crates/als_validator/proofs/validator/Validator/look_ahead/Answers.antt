use Rattle.als_validator.proofs.Judged.{IsJudgedBy-some}
use Rattle.als_validator.proofs.validator.Validator.look_ahead.Goals as goal

pub returns-in-Some-clause-kept : goal.returns-in-Some-clause-kept
returns-in-Some-clause-kept c pages log v = record {
  table = v.table;
  judging = IsJudgedBy-some pages c.look_ahead.new.self log (c.look_ahead.ensures.kept pages log (v.judging c.in-Some.judging c.in-Some.is));
  greatest = v.greatest;
  begun = v.begun;
}
