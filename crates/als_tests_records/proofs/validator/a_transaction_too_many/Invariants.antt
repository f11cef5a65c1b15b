use Rattle.std.proofs.Common.{◌≡◌, true}
use Rattle.als_validator.specs.Validated.{judges}
use Rattle.als_tests_records.proofs.validator.a_transaction_too_many.Given as goal

abbrev pub invariant-loop-k : goal.invariant-loop-k
invariant-loop-k g l = judges l.one ≡ true
