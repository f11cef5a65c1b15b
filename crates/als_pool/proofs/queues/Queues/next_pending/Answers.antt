use Rattle.std.proofs.Common.{◌≡◌, length, arith}
use Rattle.std.specs.Prelude.{min}
use Rattle.als_pool.proofs.QueueSteps.{waits_in}
use Rattle.als_pool.proofs.NextFlag.{waits_some, waits_none}
use Rattle.als_pool.proofs.queues.Queues.next_pending.Goals as goal

pub returns-in-Some : goal.returns-in-Some
returns-in-Some c =
    let s = c.self.inside in
    let least : c.min-from.result ≡ min c.args.from (length s.flags.items) = omega (arith, c.min-from.ensures, c.len.ensures) in
    rw (← c.self.view_is) (waits_some (waits_in s.queues.items) s.flags.items c.args.from c.min-from.result c.self.invariant.2 least c.in-Some.page c.in-Some.ensures)

pub returns-in-None : goal.returns-in-None
returns-in-None c =
    let s = c.self.inside in
    let least : c.min-from.result ≡ min c.args.from (length s.flags.items) = omega (arith, c.min-from.ensures, c.len.ensures) in
    rw (← c.self.view_is) (waits_none (waits_in s.queues.items) s.flags.items c.args.from c.min-from.result c.self.invariant.2 least c.in-None.ensures)
