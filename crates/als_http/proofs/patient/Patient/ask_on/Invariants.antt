use Rattle.als_http.specs.Waiting.{AnswersAtLast}
use Rattle.als_http.proofs.patient.Patient.ask_on.Given as goal

-- the service was asked no more, or again
abbrev pub invariant-loop : goal.invariant-loop
invariant-loop g l =
    (start : g.row.V.Denot) → AnswersAtLast g.V.Service.answers l.request start l.fn.response l.fn.self.service.now
    → AnswersAtLast g.V.Service.answers l.request start l.response l.self.service.now
