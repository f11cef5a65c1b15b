use Rattle.als_record.proofs.Decisions.{decision-commit, decision-rollback}
use Rattle.als_laws.proofs.decisions.decision_is_kept.Goals as goal

pub returns-clause-commit : goal.returns-clause-commit
returns-clause-commit c log t k d = decision-commit log t d k

pub returns-clause-rollback : goal.returns-clause-rollback
returns-clause-rollback c log t k d = decision-rollback log t d k
