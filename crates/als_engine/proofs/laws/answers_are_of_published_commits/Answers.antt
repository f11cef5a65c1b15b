use Rattle.als_engine.proofs.KnownLaws.{known_reads}
use Rattle.als_engine.proofs.laws.answers_are_of_published_commits.Goals as goal

pub returns : goal.returns
returns c = known_reads
