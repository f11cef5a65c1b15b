use Rattle.als_lead.proofs.Doubts.{prepared_commits}
use Rattle.als_lead.proofs.laws.a_decision_commits_what_was_prepared.Goals as goal

pub returns : goal.returns
returns c m t prepared decided valid made by = prepared_commits m t prepared decided valid made by
