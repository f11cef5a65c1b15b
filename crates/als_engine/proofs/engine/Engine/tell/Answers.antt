use Rattle.std.proofs.Common.{◌∙◌}
use Rattle.als_store.specs.Stored.{acknowledged}
use Rattle.als_engine.proofs.ReaderLaws.{view_told}
use Rattle.als_engine.proofs.engine.Engine.tell.Goals as goal

pub returns-clause-told : goal.returns-clause-told
returns-clause-told g c =
    let s = c.self.inside in
    rw (← c.self.view_is) (
    c.tell.ensures.1 ∙ view_told s.store.stored.log (acknowledged s.store.stored) s.shown c.self.invariant.seen.shows
    )
