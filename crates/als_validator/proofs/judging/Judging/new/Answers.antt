use Rattle.std.proofs.Common.{[], subst, sym}
use Rattle.als_validator.specs.Seen.{AreCommitted}
use Rattle.als_validator.proofs.StateSteps.{committed-none}
use Rattle.als_validator.proofs.judging.Judging.new.Goals as goal

pub returns-clause-ok : goal.returns-clause-ok
returns-clause-ok c = record { survivors = c.new.ensures; keys = c.in_ok-unwritten_keys.ensures.ok; committed = subst (λ xs. AreCommitted xs []) (sym c.new-2.ensures.items) committed-none }
