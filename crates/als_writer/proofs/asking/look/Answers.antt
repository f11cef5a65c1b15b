use Rattle.als_writer.proofs.Looking.{look_free}
use Rattle.als_writer.proofs.asking.look.Goals as goal

pub returns-in-None-clause-now : goal.returns-in-None-clause-now
returns-in-None-clause-now g c a = look_free (g.E.Events.machine c.args.engine.now) c.args.key c.in-Ok.told (c.in-Ok.ensures.now a) c.in-None.is
