use Rattle.als_log.proofs.Keeping.{readable, held-read}
use Rattle.als_log.proofs.local_log.LocalLog.record.Goals as goal

pub look-requires : goal.look-requires
look-requires g c = rw c.as_slice.ensures.value (readable c.self.invariant)

pub invariant_of-self : goal.invariant_of-self
invariant_of-self g c =
    rw c.look.ensures.count (held-read c.self.invariant c.self.inside.cursor c.look.new.near (g.D.BlockDisk.slot c.look.new.disk) c.self.invariant.walked c.look.ensures.near c.look.ensures.same)
