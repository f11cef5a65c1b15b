use Rattle.als_validator.proofs.Judged.{IsJudgedBy-some}
use Rattle.als_validator.proofs.validator.Validator.reserve.Goals as goal

pub returns-in-Some-clause-kept : goal.returns-in-Some-clause-kept
returns-in-Some-clause-kept c pages log v = record {
  table = v.table;
  judging = IsJudgedBy-some pages c.reserve.new.self log (c.reserve.ensures.kept pages log (v.judging c.in-Some.judging c.in-Some.is));
  greatest = v.greatest;
  begun = v.begun;
}
