use Rattle.std.proofs.Common.{◌≡◌, true}
use Rattle.als_validator.specs.Validated.{judges}
use Rattle.als_bench_parts.proofs.reading.judge_pieces.Given as goal

abbrev pub invariant-loop-bytes : goal.invariant-loop-bytes
invariant-loop-bytes l = judges l.validator ≡ true
