use Rattle.std.proofs.Common.{[], Some, sym, ap, ◌∙◌, append-nil}
use Rattle.als_record.specs.Spelling.{spelling, record_len}
use Rattle.als_log.proofs.Lookups.{found-same, found-none, found-where_spelled, rows-where_spelled}
use Rattle.als_log.proofs.reading.decoded.Goals as goal

pub returns-in-Ok-Some-clause-found : goal.returns-in-Ok-Some-clause-found
returns-in-Ok-Some-clause-found c r fits lsn is =
    ap Some (sym (found-same r c.in-Ok-Some.found (record_len r) _ c.in-Ok-Some.field-0 (c.in-Ok-Some.ensures.only r [] fits lsn (is ∙ sym (append-nil (spelling r)))) c.in-Ok-Some.field-0-is))

pub returns-in-Ok-None-clause-found : goal.returns-in-Ok-None-clause-found
returns-in-Ok-None-clause-found c r fits lsn is =
    absurd (found-none (r, record_len r) c.in-Ok-None.field-0 (c.in-Ok-None.ensures.only r [] fits lsn (is ∙ sym (append-nil (spelling r)))) c.in-Ok-None.field-0-is)

pub returns-in-Err-clause-found : goal.returns-in-Err-clause-found
returns-in-Err-clause-found c r fits lsn is =
    rw c.no_record.ensures (found-where_spelled (r, record_len r) c.in-Err.fault (c.in-Err.ensures.only r [] fits lsn (is ∙ sym (append-nil (spelling r)))))

pub returns-in-Err-clause-err : goal.returns-in-Err-clause-err
returns-in-Err-clause-err c =
    rw c.no_record.ensures (rows-where_spelled c.args.pages c.args.at c.in-Err.fault c.args.bytes.now (λ r fits lsn is. c.in-Err.ensures.only r [] fits lsn (is ∙ sym (append-nil (spelling r)))) c.in-Err.ensures.rows)
