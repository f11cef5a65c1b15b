use Rattle.std.proofs.Common.{[], refl}
use Rattle.als_record.specs.Transactions.{greatest_trans}
use Rattle.als_record.specs.Validity.{open_checkpoint}
use Rattle.als_validator.proofs.Judged.{IsJudgedBy-some}
use Rattle.als_validator.proofs.validator.Validator.new.Goals as goal

pub returns-clause-ok : goal.returns-clause-ok
unfolding greatest_trans open_checkpoint
returns-clause-ok c = record { table = c.in_ok-new.ensures; judging = IsJudgedBy-some c.args.pages c.in_ok-new-2.field-0 [] c.in_ok-new-2.ensures.ok; greatest = refl; begun = refl }
