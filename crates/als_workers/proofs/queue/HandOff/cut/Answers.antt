use Rattle.als_workers.proofs.Moves.{forks}
use Rattle.als_workers.proofs.queue.HandOff.cut.Goals as goal

pub another-requires-clause-rule : goal.another-requires-clause-rule
another-requires-clause-rule c = forks _ _ c.requires.parts
