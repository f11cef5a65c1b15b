use Rattle.als_view.proofs.ShowingLaws.{shown_are_commits, published_few}
use Rattle.als_view.proofs.laws.shown_commits_may_be_published.Goals as goal

pub returns-clause-commits : goal.returns-clause-commits
returns-clause-commits c = shown_are_commits

pub returns-clause-few : goal.returns-clause-few
returns-clause-few c = published_few
