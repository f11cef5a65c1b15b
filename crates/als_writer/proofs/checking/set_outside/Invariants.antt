use Rattle.std.proofs.Common.{take, All}
use Rattle.als_record.specs.Spelling.{IsKey}
use Rattle.als_writer.proofs.checking.set_outside.Given as goal

abbrev pub invariant-loop-set : goal.invariant-loop-set
invariant-loop-set l = All (λ w. IsKey l.pages w.key) (take l.set-index l.sets)
