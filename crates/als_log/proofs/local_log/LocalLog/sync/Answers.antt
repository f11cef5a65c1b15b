use Rattle.std.proofs.Common.{arith}
use Rattle.als_record.specs.LogText.{log_text}
use Rattle.als_log.specs.History.{records_in}
use Rattle.als_log.proofs.Keeping.{reach, held-write, held-sync, settled-same}
use Rattle.als_log.proofs.local_log.LocalLog.sync.Goals as goal

pub invariant_of-self : goal.invariant_of-self
invariant_of-self g c =
    let h = c.self.invariant in
    let log = records_in c.self.inside.history in
    rw c.sync.ensures.count (held-write h c.self.inside.written (g.D.BlockDisk.slot c.sync.new.disk) h.order.order h.order.within
    (c.in_err-sync.ensures.err (log_text c.self.inside.pages log) c.self.inside.written c.self.inside.synced h.order.order h.stored)
    (settled-same (g.D.BlockDisk.slot c.self.inside.disk) (g.D.BlockDisk.slot c.sync.new.disk) c.self.inside.written c.self.inside.synced c.in_err-sync.ensures.same h.settled))

pub drop_front-requires : goal.drop_front-requires
drop_front-requires g c =
    let h = c.self.invariant in
    let order = c.whole_end_of-whole.ensures.order in
    omega (arith, reach h, h.order.within, order.0, order.1)

pub invariant_of-self-2 : goal.invariant_of-self-2
invariant_of-self-2 g c =
    let h = c.self.invariant in
    let log = records_in c.self.inside.history in
    let order = c.whole_end_of-whole.ensures.order in
    rw c.sync.ensures.count (held-sync h c.whole_end_of-whole.result c.drop_front.new.bytes.items (g.D.BlockDisk.slot c.sync.new.disk) c.whole_end_of-whole.ensures.front order.0 order.1 c.drop_front.ensures.items
    (c.in_ok-sync.ensures.ok (log_text c.self.inside.pages log) c.self.inside.written c.self.inside.synced c.whole_end_of-whole.result order.1 h.stored)
    c.in_ok-sync.ensures.settled)
