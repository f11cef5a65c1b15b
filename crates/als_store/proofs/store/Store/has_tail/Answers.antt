use Rattle.als_store.proofs.store.Store.has_tail.Goals as goal

pub returns : goal.returns
returns g c = rw (← c.self.view_is) (c.has_tail.ensures c.self.inside.pages c.self.inside.log.log c.self.invariant.judged)
