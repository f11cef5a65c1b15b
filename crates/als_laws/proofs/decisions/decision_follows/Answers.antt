use Rattle.als_record.proofs.Decisions.{decision-is_valid, decision-reserved, decision-in_doubt}
use Rattle.als_laws.proofs.decisions.decision_follows.Goals as goal

pub returns-clause-valid : goal.returns-clause-valid
returns-clause-valid c log t body v d e = decision-is_valid log t d v body e

pub returns-clause-reserved : goal.returns-clause-reserved
returns-clause-reserved c log t body d e = decision-reserved log t d body e

pub returns-clause-others : goal.returns-clause-others
returns-clause-others c log t body d e = decision-in_doubt log t d body e
