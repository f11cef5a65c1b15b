use Rattle.std.proofs.Common.{refl, ◌∙◌, arith}
use Rattle.als_workers.proofs.Dispatches.{stopped_none, stopped_more, stopped_parts, few_stops}
use Rattle.als_workers.proofs.dispatching.stop_all.Goals as goal

pub loop-init : goal.loop-init
loop-init g c = (c.requires.queue, refl, omega arith, stopped_none _)

pub loop-preserved : goal.loop-preserved
loop-preserved g c =
    let i = c.loop.invariant in
    let more = stopped_more _ _ _ _ _ _ i.3 c.stop_one-stops.ensures.stops in
    (c.stop_one-stops.ensures.queue, stopped_parts _ _ _ _ c.stop_one-stops.ensures.stops ∙ i.1, few_stops _ _ _ _ more, more)
