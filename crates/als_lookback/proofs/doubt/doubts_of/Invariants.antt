use Rattle.std.proofs.Common.{◌≡◌, ℕ, List}
use Rattle.als_record.specs.declared.record.Record.{Record as AnyRecord}
use Rattle.als_validator.specs.Validated.{IsValidatorOf}
use Rattle.als_lookback.proofs.DoubtLaws.{doubts_below}
use Rattle.als_lookback.proofs.doubt.doubts_of.Given as goal

abbrev pub invariant-loop-i : goal.invariant-loop-i
invariant-loop-i l = record {
  so_far : (pages : ℕ) (log : List AnyRecord) → IsValidatorOf pages l.fn.validator log → l.doubts.items ≡ doubts_below log l.i;
}
