use Rattle.als_workers.proofs.Moves.{takes, tells_nothing}
use Rattle.als_workers.proofs.hand_off.receive.Goals as goal

pub recv_as-requires-clause-rule : goal.recv_as-requires-clause-rule
recv_as-requires-clause-rule g c = (takes _ _ c.requires.parts, tells_nothing _ _)
