use Rattle.std.proofs.Common.{◌∙◌}
use Rattle.als_service.proofs.Chains.{reaches_both, follows_both}
use Rattle.als_service.proofs.Vouched.{vouches_more}
use Rattle.als_service.proofs.Endings.{goes_on_more, ends_last, final_is_not_lost}
use Rattle.als_service.proofs.keeping.follow_sessions.Goals as goal

-- the sessions so far, and the one that has just ended
pub returns-in-Some-final_fault-clause-vouched : goal.returns-in-Some-final_fault-clause-vouched
returns-in-Some-final_fault-clause-vouched g c = λ alone.
    vouches_more (g.E.Events.machine c.loop.held) (g.E.Events.machine c.follow_next-back.result.events)
    (g.L.Primaries.met c.args.primaries.now) (g.L.Primaries.met c.loop.primaries) (g.L.Primaries.met c.follow_next-back.new.primaries)
    (c.position-before.ensures alone) (c.follow_next-back.ensures.reached alone) (c.loop.invariant.4 alone)
    (c.follow_next-back.ensures.vouched alone)

pub returns-in-Some-final_fault-clause-reached : goal.returns-in-Some-final_fault-clause-reached
returns-in-Some-final_fault-clause-reached g c = λ alone.
    reaches_both (g.E.Events.machine c.args.events) (g.E.Events.machine c.loop.held) (g.E.Events.machine c.follow_next-back.result.events)
    (c.loop.invariant.2 alone) (c.follow_next-back.ensures.reached alone)

pub returns-in-Some-final_fault-clause-follows : goal.returns-in-Some-final_fault-clause-follows
returns-in-Some-final_fault-clause-follows g c = λ alone.
    follows_both (g.E.Events.machine c.args.events) (g.E.Events.machine c.loop.held) (g.E.Events.machine c.follow_next-back.result.events)
    (c.loop.invariant.6 alone) (c.follow_next-back.ensures.follows alone)

pub returns-in-Some-final_fault-clause-last : goal.returns-in-Some-final_fault-clause-last
returns-in-Some-final_fault-clause-last g c =
    ends_last c.in-Some-final_fault.fault c.follow_next-back.result.ended
    (g.L.Primaries.met c.args.primaries.now) (g.L.Primaries.met c.loop.primaries) (g.L.Primaries.met c.follow_next-back.new.primaries)
    c.loop.invariant.5 c.follow_next-back.ensures.ended c.in-Some-final_fault.ensures.ends c.in-Some-final_fault.ensures.over

pub returns-in-Some-final_fault-clause-ended : goal.returns-in-Some-final_fault-clause-ended
returns-in-Some-final_fault-clause-ended g c = final_is_not_lost c.in-Some-final_fault.fault c.in-Some-final_fault.ensures.over

pub loop-preserved : goal.loop-preserved
loop-preserved g c = (
  tt,
  tt,
  (λ alone. reaches_both (g.E.Events.machine c.args.events) (g.E.Events.machine c.loop.held) (g.E.Events.machine c.follow_next-back.result.events)
      (c.loop.invariant.2 alone) (c.follow_next-back.ensures.reached alone)),
  c.follow_next-back.ensures.book ∙ c.loop.invariant.3,
  (λ alone.
      vouches_more (g.E.Events.machine c.loop.held) (g.E.Events.machine c.follow_next-back.result.events)
      (g.L.Primaries.met c.args.primaries.now) (g.L.Primaries.met c.loop.primaries) (g.L.Primaries.met c.follow_next-back.new.primaries)
      (c.position-before.ensures alone) (c.follow_next-back.ensures.reached alone) (c.loop.invariant.4 alone)
      (c.follow_next-back.ensures.vouched alone)),
  goes_on_more c.follow_next-back.result.ended
      (g.L.Primaries.met c.args.primaries.now) (g.L.Primaries.met c.loop.primaries) (g.L.Primaries.met c.follow_next-back.new.primaries)
      c.loop.invariant.5 c.follow_next-back.ensures.ended c.in_default.ensures.goes_on,
  (λ alone. follows_both (g.E.Events.machine c.args.events) (g.E.Events.machine c.loop.held) (g.E.Events.machine c.follow_next-back.result.events)
      (c.loop.invariant.6 alone) (c.follow_next-back.ensures.follows alone)),
)
