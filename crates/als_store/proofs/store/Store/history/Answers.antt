use Rattle.als_ckpt.specs.Control.{newest}
use Rattle.als_store.proofs.TakeoverLaws.{contains_last}
use Rattle.als_store.proofs.store.Store.history.Goals as goal

pub returns-clause-facts : goal.returns-clause-facts
returns-clause-facts g c =
    let s = c.self.inside in
    rw (← c.self.view_is) (c.newest.ensures.facts.fits (newest s.control) (contains_last s.control.synced s.control.since)).history

pub returns-clause-lsns : goal.returns-clause-lsns
returns-clause-lsns g c =
    let s = c.self.inside in
    rw (← c.self.view_is) (c.newest.ensures.facts.fits (newest s.control) (contains_last s.control.synced s.control.since)).lsns

pub returns-clause-grown : goal.returns-clause-grown
returns-clause-grown g c = rw (← c.self.view_is) c.newest.ensures.facts.grown_to

pub returns-clause-last : goal.returns-clause-last
returns-clause-last g c =
    let s = c.self.inside in
    rw (← c.self.view_is) (c.newest.ensures.facts.fits (newest s.control) (contains_last s.control.synced s.control.since)).last
