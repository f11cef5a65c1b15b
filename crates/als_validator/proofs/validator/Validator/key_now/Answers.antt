use Rattle.als_validator.proofs.validator.Validator.key_now.Goals as goal

pub returns : goal.returns
returns c pages log v l fits = c.key_now.ensures pages log (v.judging c.in-Some.judging c.in-Some.is) v.table l.valid fits
