use Rattle.als_http.specs.Waiting.{AtOnce}
use Rattle.als_http.proofs.patient.PatientService.call.Goals as goal

pub returns-then-seconds-gt0-clause-ok : goal.returns-then-seconds-gt0-clause-ok
returns-then-seconds-gt0-clause-ok g c = c.ask_on.ensures c.args.self.now.service.now (AtOnce _ _ c.in_ok-call.ensures.ok)

pub returns-else-seconds-gt0-clause-ok : goal.returns-else-seconds-gt0-clause-ok
returns-else-seconds-gt0-clause-ok g c = AtOnce _ _ c.in_ok-call.ensures.ok
