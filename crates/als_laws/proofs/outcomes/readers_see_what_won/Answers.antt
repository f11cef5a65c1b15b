use Rattle.als_record.proofs.CommitSteps.{commits_of-front}
use Rattle.als_record.proofs.SeenCommits.{seen_after-commits_of}
use Rattle.als_laws.proofs.outcomes.readers_see_what_won.Goals as goal

pub returns-clause-seen : goal.returns-clause-seen
returns-clause-seen c log v k = seen_after-commits_of log v k

pub returns-clause-front : goal.returns-clause-front
returns-clause-front c log more v = commits_of-front log more v
