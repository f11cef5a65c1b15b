use Rattle.als_record.specs.Shown.{shown}
use Rattle.als_record.proofs.Validity.{first_bad-none, may_follow-admitted}
use Rattle.als_validator.proofs.validator.Validator.reserve_after.Goals as goal

pub returns : goal.returns
returns c pages log v place none short =
    c.reserve_after.ensures log v.table (may_follow-admitted log (shown c.args.logged.now) (first_bad-none log (shown c.args.logged.now) place none)) short
