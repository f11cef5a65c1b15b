use Rattle.std.proofs.Common.{refl}
use Rattle.als_workers.proofs.Dispatches.{lends_none, lends_one, lends_back}
use Rattle.als_workers.proofs.dispatching.lend_one.Goals as goal

pub returns-in-Err-clause-dispatches : goal.returns-in-Err-clause-dispatches
returns-in-Err-clause-dispatches g c = lends_none _ _ _ _ refl c.in-Err.ensures.told

pub returns-in-Ok-put-clause-dispatches : goal.returns-in-Ok-put-clause-dispatches
returns-in-Ok-put-clause-dispatches g c = lends_one _ _ c.in-Ok.lease _ _ c.in-Ok.ensures.fresh c.in-Ok-put.ensures.put c.in-Ok.ensures.told

pub returns-in-Err-Work-clause-dispatches : goal.returns-in-Err-Work-clause-dispatches
returns-in-Err-Work-clause-dispatches g c =
    lends_back _ _ c.give.result _ _ _ c.in-Err-Work.ensures.back.1 c.in-Ok.ensures.told c.give.ensures.told
