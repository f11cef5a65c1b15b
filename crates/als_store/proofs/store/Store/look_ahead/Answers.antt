use Rattle.std.proofs.Common.{refl}
use Rattle.als_store.proofs.StoredParts.{stored-again}
use Rattle.als_store.proofs.store.Store.look_ahead.Goals as goal

pub invariant_of-self : goal.invariant_of-self
invariant_of-self g c =
    let s = c.self.inside in
    stored-again s.pages s.count s.log s.control s.pool.pool s.validator s.broken s.origin
    s.recovering c.self.invariant s.log c.look_ahead.new.self refl
    (c.look_ahead.ensures.kept s.pages s.log.log c.self.invariant.judged)
    c.look_ahead.ensures.judging
