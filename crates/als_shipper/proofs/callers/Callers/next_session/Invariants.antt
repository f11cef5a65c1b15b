use Rattle.std.proofs.Common.{◌≡◌}
use Rattle.als_shipper.proofs.callers.Callers.next_session.Given as goal

-- who only asked is no visitor
abbrev pub invariant-loop : goal.invariant-loop
invariant-loop g l = l.self.met ≡ l.fn.self.met
