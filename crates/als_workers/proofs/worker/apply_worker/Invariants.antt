use Rattle.std.proofs.Common.{◌≡◌, [], ◌∷◌, None}
use Rattle.crossbeam_channel.specs.Claims.{view}
use Rattle.als_workers.specs.Passes.{IsPassOf}
use Rattle.als_engine.specs.declared.event.Event.TheVariants as event
use Rattle.als_workers.specs.Offers.{events_of, record_of}
use Rattle.als_workers.specs.Tallies.{AloneRaise}
use Rattle.als_workers.specs.Worked.{Worked}
use Rattle.als_workers.proofs.worker.apply_worker.Given as goal

abbrev pub invariant-loop : goal.invariant-loop
invariant-loop g l =
    (goal.iterator-loop g).can_next l.iterator' × (goal.iterator-loop g).is_finite l.iterator' × IsPassOf l.queue l.pass
    × ((view l.pass).parts ≡ (view l.fn.pass).parts)
    × Worked (view l.fn.pass) (view l.pass) (g.O.OfferRecord.offers (record_of l.fn.via)) (g.O.OfferRecord.offers (record_of l.via)) None
    × AloneRaise (event.Give ∷ []) (g.E.Events.tally (events_of l.fn.via)) (g.E.Events.tally (events_of l.via))
