use Rattle.als_engine.proofs.engine.Engine.history.Goals as goal

pub returns-clause-grown : goal.returns-clause-grown
returns-clause-grown g c = rw (← c.self.view_is) c.history.ensures.grown
