use Rattle.als_pool.proofs.Reading.{reads-all}
use Rattle.als_pool.proofs.laws.queues_join_images.Goals as goal

pub returns-clause-joined : goal.returns-clause-joined
returns-clause-joined c log below position rows pool reached listed given are h lacks = reads-all position rows log below pool reached listed given are h lacks

pub returns-clause-opened : goal.returns-clause-opened
returns-clause-opened c log below pool held h = reads-all held.position held.rows log below pool held.reached held.listed held.given held.frames h held.lacks
