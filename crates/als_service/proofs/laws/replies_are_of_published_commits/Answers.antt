use Rattle.als_service.proofs.ReadLaws.{replied, reads_later, told_at}
use Rattle.als_service.proofs.laws.replies_are_of_published_commits.Goals as goal

pub returns-clause-now : goal.returns-clause-now
returns-clause-now c = replied

pub returns-clause-later : goal.returns-clause-later
returns-clause-later c = reads_later

pub returns-clause-told : goal.returns-clause-told
returns-clause-told c = told_at
