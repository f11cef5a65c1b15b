use Rattle.als_commits.proofs.Rising.{ended_count-all}
use Rattle.als_commits.proofs.laws.all_commits_end.Goals as goal

pub returns : goal.returns
returns c = ended_count-all
