use Rattle.als_engine.proofs.KeepLaws.{reaches_front}
use Rattle.als_engine.proofs.ReaderLaws.{counted}
use Rattle.als_engine.proofs.engine.Engine.status.Goals as goal

pub returns-clause-stable : goal.returns-clause-stable
returns-clause-stable g c = rw (← c.self.view_is) (reaches_front _ _ c.acknowledged.ensures.front)

pub returns-clause-counted : goal.returns-clause-counted
returns-clause-counted g c =
    let s = c.self.inside in
    rw (← c.self.view_is) (counted s.store.stored s.shown c.self.invariant.seen)
