use Rattle.als_log.specs.History.{records_in}
use Rattle.als_log.proofs.Lookups.{front-first}
use Rattle.als_log.proofs.reading.start_of.Goals as goal

pub returns-else-cursor-to-clause-front : goal.returns-else-cursor-to-clause-front
returns-else-cursor-to-clause-front c = front-first (records_in c.args.history.now)
