use Rattle.als_store.proofs.store.Store.table.Goals as goal

pub returns : goal.returns
returns g c =
    rw (← c.self.view_is) (c.rows.ensures.rows c.self.inside.pages c.self.inside.log.log
    c.self.invariant.judged)
