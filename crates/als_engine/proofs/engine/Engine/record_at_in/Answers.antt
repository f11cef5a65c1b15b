use Rattle.std.proofs.Common.{ap}
use Rattle.als_store.specs.Stored.{Stored}
use Rattle.als_view.specs.Showing.{published_of}
use Rattle.als_engine.proofs.FeedLaws.{machine}
use Rattle.als_engine.proofs.engine.Engine.record_at_in.Goals as goal

pub returns-clause-reads : goal.returns-clause-reads
returns-clause-reads g c =
    rw (← c.self.view_is) (
      c.in_ok-found.ensures.ok.0,
      ap
          (λ (h : Stored). machine h c.self.inside.limit c.self.inside.receiver.kept
          c.self.inside.refused (published_of c.self.inside.shown)) c.in_ok-found.ensures.ok.1,
    )
