use Rattle.std.proofs.Common.{sym, ap, ◌∙◌, arith}
use Rattle.std.specs.Prelude.{nat_le}
use Rattle.als_record.specs.declared.lsn.Lsn.{Lsn}
use Rattle.als_record.specs.LogText.{end_of}
use Rattle.als_record.specs.Tail.{is_undone}
use Rattle.als_pool.specs.Queues.{total_waiting}
use Rattle.als_store.proofs.SealLaws.{left_not_drained, drained_is}
use Rattle.als_store.proofs.store.Store.is_drained.Goals as goal

pub returns-then-has_tail : goal.returns-then-has_tail
returns-then-has_tail g c =
    let s = c.self.inside in
    rw (← c.self.view_is)
    (left_not_drained (is_undone s.log.log) (nat_le (total_waiting s.pool.pool.waits) 0) (nat_le (end_of s.log.log) s.control.synced.mark.0)
    (sym c.if-has_tail.true ∙ c.has_tail.ensures s.pages s.log.log c.self.invariant.judged))

pub returns : goal.returns
returns g c =
    let s = c.self.inside in
    rw (← c.self.view_is)
    (drained_is (is_undone s.log.log) (total_waiting s.pool.pool.waits) (end_of s.log.log) s.control.synced.mark.0 c.end.result.0 c.acknowledged.result.0
    (sym c.if-has_tail.false ∙ c.has_tail.ensures s.pages s.log.log c.self.invariant.judged)
    (omega (arith, c.waiting.ensures, c.if-waiting-gt0.false)) c.end.ensures.end (ap (λ (l : Lsn). l.0) c.acknowledged.ensures.mark))
