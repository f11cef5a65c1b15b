use Rattle.als_view.proofs.Knowing.{reads_known, begins_earlier}
use Rattle.als_view.proofs.laws.what_is_known_is_published.Goals as goal

pub returns-clause-reads : goal.returns-clause-reads
returns-clause-reads c = reads_known

pub returns-clause-earlier : goal.returns-clause-earlier
returns-clause-earlier c = begins_earlier
