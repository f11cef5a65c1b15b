use Rattle.als_workers.proofs.Moves.{puts, tells_nothing}
use Rattle.als_workers.proofs.queue.HandOff.put.Goals as goal

pub send_as-requires-clause-rule : goal.send_as-requires-clause-rule
send_as-requires-clause-rule g c = (puts _ _ _ _ c.requires.parts, tells_nothing _ _)
