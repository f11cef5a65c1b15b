use Rattle.std.proofs.Common.{[], ◌∷◌, ◌++◌}
use Rattle.als_record.specs.Shown.{shown}
use Rattle.als_validator.proofs.Judged.{IsJudgedBy-some}
use Rattle.als_validator.proofs.validator.note_update.Goals as goal

pub returns-in-Some-clause-kept : goal.returns-in-Some-clause-kept
returns-in-Some-clause-kept c pages log v valid stands =
    IsJudgedBy-some pages c.note_update.new.self (log ++ shown c.args.logged.now ∷ []) (c.note_update.ensures pages log (v c.in-Some.judging c.in-Some.is) valid stands)
