use Rattle.std.proofs.Common.{sym, ap, ◌∙◌}
use Rattle.als_record.specs.Transactions.{is_in_doubt}
use Rattle.als_record.specs.Validity.{is_valid}
use Rattle.als_record.specs.Commits.{writes_of}
use Rattle.als_writing.proofs.Doubting.{records_of-behind, writes_of-prepared}
use Rattle.als_writing.proofs.prepared.a_prepared_transaction_keeps_its_writes.Goals as goal

pub returns-clause-writes : goal.returns-clause-writes
returns-clause-writes c pages log front more t writes e v m d =
    ap (λ l. writes_of l t) e
    ∙ writes_of-prepared pages front more t writes m (ap is_valid (sym e) ∙ v) (ap (λ l. is_in_doubt l t) (sym e) ∙ d)

pub returns-clause-records : goal.returns-clause-records
returns-clause-records c pages log front more t writes e v m d = records_of-behind pages front more t writes m (ap is_valid (sym e) ∙ v) (ap (λ l. is_in_doubt l t) (sym e) ∙ d)
