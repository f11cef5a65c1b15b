use Rattle.als_deposed.proofs.LeaderLaws.{due_answered, due_kept}
use Rattle.als_deposed.proofs.leading.what_a_leader_answered_is_taken_over.Goals as goal

pub returns-clause-answered : goal.returns-clause-answered
returns-clause-answered g c start e u t w due valid = due_answered g.E.Events.machine g.U.Upkeep.confirmed g.U.Upkeep.missed g.U.Upkeep.failed start e u t w due valid

pub returns-clause-kept : goal.returns-clause-kept
returns-clause-kept g c start e u t w due valid = due_kept g.E.Events.machine g.U.Upkeep.confirmed g.U.Upkeep.missed g.U.Upkeep.failed start e u t w due valid
