use Rattle.als_sending.proofs.Going.{goes_none}
use Rattle.als_sending.proofs.pouring.greet.Goals as goal

pub returns-then-way-clause-goes : goal.returns-then-way-clause-goes
returns-then-way-clause-goes g c = λ heard asked. goes_none c.args.way.now (g.G.Growing.reads c.args.log.now) heard asked (g.W.Write.contents c.args.writer.now)
