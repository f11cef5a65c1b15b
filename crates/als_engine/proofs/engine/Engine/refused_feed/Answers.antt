use Rattle.std.proofs.Common.{sym, ◌∙◌, arith}
use Rattle.als_view.specs.Showing.{published_of}
use Rattle.als_engine.proofs.FeedLaws.{machine}
use Rattle.als_engine.proofs.RefusalLaws.{feed_not_refused}
use Rattle.als_engine.proofs.engine.Engine.refused_feed.Goals as goal

pub returns-clause-is : goal.returns-clause-is
returns-clause-is g c =
    let s = c.self.inside in
    let m = machine s.store.stored s.limit s.receiver.kept s.refused (published_of s.shown) in
    let looked = feed_not_refused m (sym c.is_broken-stopped.ensures ∙ c.if-stopped.false)
    (sym c.is_recovering.ensures ∙ c.if-is_recovering.false)
    (sym c.if-not-is_following.ensures.is) c.in_default.is
    (omega (arith, c.pending.ensures, c.if-pending-self.false)) in
    rw (← c.self.view_is) (sym looked)

pub returns-clause-following : goal.returns-clause-following
returns-clause-following g c = rw (← c.self.view_is) (λ _. sym c.if-not-is_following.ensures.is)
