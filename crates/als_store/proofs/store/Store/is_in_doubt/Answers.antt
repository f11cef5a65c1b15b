use Rattle.als_store.proofs.store.Store.is_in_doubt.Goals as goal

pub returns : goal.returns
returns g c = rw (← c.self.view_is) (c.is_in_doubt.ensures c.self.inside.pages c.self.inside.log.log c.self.invariant.judged)
