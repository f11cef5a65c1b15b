use Rattle.als_scan.proofs.judge.admit.Goals as goal

pub returns-clause-ok : goal.returns-clause-ok
returns-clause-ok c pages log known valid = c.admit.ensures.kept pages log (c.pass.ensures.kept pages log known) valid
