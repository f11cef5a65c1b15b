use Rattle.als_log.proofs.Keeping.{readable, held-read}
use Rattle.als_log.proofs.local_log.LocalLog.read_at.Goals as goal

pub find-requires-clause-readable : goal.find-requires-clause-readable
find-requires-clause-readable g c = rw c.as_slice.ensures.value (readable c.self.invariant)

pub invariant_of-self : goal.invariant_of-self
invariant_of-self g c =
    rw c.find.ensures.count (held-read c.self.invariant c.self.inside.cursor c.find.new.near (g.D.BlockDisk.slot c.find.new.disk) c.self.invariant.walked c.find.ensures.near c.find.ensures.same)

pub invariant_of-self-2 : goal.invariant_of-self-2
invariant_of-self-2 g c =
    rw c.find.ensures.count (held-read c.self.invariant c.in_ok-cursor.cursor c.find.new.near (g.D.BlockDisk.slot c.find.new.disk) c.in_ok-cursor.ensures.front c.find.ensures.near c.find.ensures.same)
