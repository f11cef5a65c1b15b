use Rattle.std.proofs.Common.{◌≡◌, true}
use Rattle.als_validator.specs.Validated.{judges}
use Rattle.als_bench_parts.proofs.reading.judge_whole.Given as goal

abbrev pub invariant-loop : goal.invariant-loop
invariant-loop l = judges l.validator ≡ true
