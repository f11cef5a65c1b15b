use Rattle.als_ship.proofs.Hearing.{ships_heard, ends_heard}
use Rattle.als_ship.proofs.laws.what_is_heard_was_told.Goals as goal

pub returns-clause-whole : goal.returns-clause-whole
returns-clause-whole c = ships_heard

pub returns-clause-early : goal.returns-clause-early
returns-clause-early c = ends_heard
