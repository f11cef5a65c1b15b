use Rattle.std.proofs.Common.{◌≡◌, ℕ, ◌<◌, List}
use Rattle.std.specs.Prelude.{IfSome}
use Rattle.als_record.specs.declared.record.Record.{Record}
use Rattle.als_record.specs.Table.{table_of}
use Rattle.als_record.specs.Transactions.{unended}
use Rattle.als_analysis.specs.Open.{rows_of}
use Rattle.als_validator.specs.Validated.{IsValidatorOf}
use Rattle.als_store.specs.TailOwn.{IsBest}
use Rattle.als_store.proofs.store.tail_own.first_undone.Given as goal

abbrev pub invariant-loop-at : goal.invariant-loop-at
invariant-loop-at l = record {
  before : IfSome l.best (λ place. place < l.at);
  best : (pages : ℕ) (log : List Record) → IsValidatorOf pages l.validator log → rows_of l.rows ≡ table_of log → IsBest log (unended log) l.at l.best;
}
