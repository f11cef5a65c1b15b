use Rattle.std.proofs.Common.{arith}
use Rattle.als_store.proofs.StoredParts.{stored-marked, stored-mark_torn}
use Rattle.als_store.proofs.store.Store.mark_write.Goals as goal

pub write_mark-requires-clause-in_log : goal.write_mark-requires-clause-in_log
write_mark-requires-clause-in_log g c =
    let facts = c.end.ensures.facts in
    omega (
      arith,
      c.synced-synced.ensures,
      facts.synced,
      facts.written,
      facts.fits,
      c.self.invariant.marks.bytes,
    )

pub invariant_of-self : goal.invariant_of-self
invariant_of-self g c =
    let s = c.self.inside in
    stored-marked s.pages s.count s.log s.control s.pool.pool s.validator s.broken s.origin
    s.recovering c.self.invariant c.write_mark.new.self _ c.end.ensures.facts
    c.synced-synced.ensures c.in-Ok.ensures.ok

pub invariant_of-self-in-Err : goal.invariant_of-self-in-Err
invariant_of-self-in-Err g c =
    let s = c.self.inside in
    stored-mark_torn s.pages s.count s.log s.control s.pool.pool s.validator s.broken s.origin
    s.recovering c.self.invariant c.write_mark.new.self _ c.end.ensures.facts
    c.synced-synced.ensures c.in-Err.ensures.err
