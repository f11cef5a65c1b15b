use Rattle.std.proofs.Common.{take, All}
use Rattle.als_record.specs.Spelling.{IsKey}
use Rattle.als_writer.specs.Checking.{key_asked}
use Rattle.als_writer.proofs.checking.asked_outside.Given as goal

abbrev pub invariant-loop-ask : goal.invariant-loop-ask
invariant-loop-ask l = All (λ a. IsKey l.pages (key_asked a)) (take l.ask-index l.asks)
