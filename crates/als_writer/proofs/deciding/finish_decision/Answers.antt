use Rattle.als_writer.proofs.Doubts.{tidied_adds, not_tidied_adds}
use Rattle.als_writer.proofs.deciding.finish_decision.Goals as goal

pub returns-in-Ok-clause-rest : goal.returns-in-Ok-clause-rest
returns-in-Ok-clause-rest g c a = tidied_adds (g.E.Events.machine c.args.engine.now) (g.E.Events.machine c.tidy.new.engine) (c.in-Ok.ensures.done a)

pub returns-in-Err-clause-rest : goal.returns-in-Err-clause-rest
returns-in-Err-clause-rest g c a = not_tidied_adds (g.E.Events.machine c.args.engine.now) (g.E.Events.machine c.tidy.new.engine) (c.in-Err.ensures.refused a)
