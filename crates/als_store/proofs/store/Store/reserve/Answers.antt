use Rattle.als_store.proofs.StoredParts.{stored-again}
use Rattle.als_store.proofs.store.Store.reserve.Goals as goal

pub invariant_of-self : goal.invariant_of-self
invariant_of-self g c =
    let s = c.self.inside in
    rw c.in_err-make_room.ensures.pages
    (stored-again s.pages s.count s.log s.control s.pool.pool s.validator s.broken s.origin
    s.recovering c.self.invariant c.make_room.new.log c.make_room.new.validator
    c.in_err-make_room.ensures.log
    (c.in_err-make_room.ensures.validator s.pages s.log.log c.self.invariant.judged)
    c.in_err-make_room.ensures.judging)

pub invariant_of-self-2 : goal.invariant_of-self-2
invariant_of-self-2 g c =
    let s = c.self.inside in
    rw c.in_ok-make_room.ensures.pages
    (stored-again s.pages s.count s.log s.control s.pool.pool s.validator s.broken s.origin
    s.recovering c.self.invariant c.make_room.new.log c.make_room.new.validator
    c.in_ok-make_room.ensures.log
    (c.in_ok-make_room.ensures.validator s.pages s.log.log c.self.invariant.judged)
    c.in_ok-make_room.ensures.judging)
