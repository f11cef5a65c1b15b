use Rattle.als_lead.proofs.Commits.{commit_in_log}
use Rattle.als_lead.proofs.laws.an_answered_commit_is_in_the_log.Goals as goal

pub returns : goal.returns
returns c = commit_in_log
