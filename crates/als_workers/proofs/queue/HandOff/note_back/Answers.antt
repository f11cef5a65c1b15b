use Rattle.als_workers.proofs.Moves.{refuses}
use Rattle.als_workers.proofs.queue.HandOff.note_back.Goals as goal

pub another-requires-clause-rule : goal.another-requires-clause-rule
another-requires-clause-rule c = refuses _ _ c.requires.parts
