use Rattle.als_commits.proofs.CommitFronts.{front_with}
use Rattle.als_commits.proofs.laws.commits_have_fronts.Goals as goal

pub returns : goal.returns
returns c = front_with
