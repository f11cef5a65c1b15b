use Rattle.als_share.proofs.locked.Locked.tell.Goals as goal

pub returns-clause-reached : goal.returns-clause-reached
returns-clause-reached g c = λ alone.
    (g.E.Events.machine c.self.inside.engine, (c.self.invariant.1 alone).reached, c.tell.ensures.tells alone)
