use Rattle.als_published_log.specs.Keeping.{IsSameView}
use Rattle.als_published_log.proofs.published_log.PublishedLog.feed.Given as goal

abbrev pub invariant-loop : goal.invariant-loop
invariant-loop l = IsSameView l.fn.self.view l.self.view
