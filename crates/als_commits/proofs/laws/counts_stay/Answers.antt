use Rattle.als_record.specs.Commits.{commits_of}
use Rattle.als_commits.proofs.Counting.{ended_count-limit, count-kept, count-rises}
use Rattle.als_commits.proofs.laws.counts_stay.Goals as goal

pub returns-clause-limit : goal.returns-clause-limit
returns-clause-limit c log offset = ended_count-limit offset (commits_of log)

pub returns-clause-kept : goal.returns-clause-kept
returns-clause-kept c = count-kept

pub returns-clause-rises : goal.returns-clause-rises
returns-clause-rises c = count-rises
