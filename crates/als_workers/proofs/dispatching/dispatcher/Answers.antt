use Rattle.als_workers.proofs.Dispatches.{then_stops}
use Rattle.als_workers.proofs.dispatching.dispatcher.Goals as goal

pub returns-clause-dispatches : goal.returns-clause-dispatches
returns-clause-dispatches g c = then_stops _ _ _ _ _ _ _ c.lend_all-end.ensures.dispatches c.stop_all-stops.ensures.stops
