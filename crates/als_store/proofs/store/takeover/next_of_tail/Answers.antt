use Rattle.std.proofs.Common.{refl}
use Rattle.als_store.proofs.SealLaws.{read_fails}
use Rattle.als_store.proofs.store.takeover.next_of_tail.Goals as goal

pub returns-in-Ok-clause-next : goal.returns-in-Ok-clause-next
returns-in-Ok-clause-next g c pages v judged = c.in-Ok.ensures.next v (c.table.ensures.table pages c.args.log.now.log judged)

pub returns-in-Err-clause-err : goal.returns-in-Err-clause-err
returns-in-Err-clause-err g c pages v judged = (refl, read_fails c.in-Err.field-0 c.args.log.now c.next_undo.new.log (c.in-Err.ensures.err v (c.table.ensures.table pages c.args.log.now.log judged)))
