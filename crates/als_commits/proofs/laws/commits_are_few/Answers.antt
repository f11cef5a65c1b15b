use Rattle.als_commits.proofs.Rising.{stands}
use Rattle.als_commits.proofs.laws.commits_are_few.Goals as goal

pub returns : goal.returns
returns c log v = (stands log v).few
