use Rattle.als_shipper.proofs.Visiting.{no_session}
use Rattle.als_shipper.proofs.shipping.serve.Goals as goal

pub returns-in-Err-clause-quiet : goal.returns-in-Err-clause-quiet
returns-in-Err-clause-quiet g c = λ cause is. no_session _ c.in-Err.fault cause c.in-Err.ensures.fails is

pub returns-in-Err-clause-answered : goal.returns-in-Err-clause-answered
returns-in-Err-clause-answered g c = λ cause is. no_session _ c.in-Err.fault cause c.in-Err.ensures.fails is
