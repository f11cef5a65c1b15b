use Rattle.als_workers.proofs.Moves.{merges}
use Rattle.als_workers.proofs.queue.HandOff.join.Goals as goal

pub absorb-requires-clause-rule : goal.absorb-requires-clause-rule
absorb-requires-clause-rule c = merges _ _ _ _ c.requires.parts
