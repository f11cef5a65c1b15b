use Rattle.std.proofs.Common.{◌≡◌, ◌≤◌, arith}
use Rattle.als_pool.proofs.QueueSteps.{total-new, flags-new, shows-new}
use Rattle.als_pool.proofs.queues.Queues.new.Goals as goal

pub invariant_of-result : goal.invariant_of-result
invariant_of-result c =
    let few : c.loop-page._page ≤ 4096 = omega (arith, c.requires, c.loop-page.auto._page-end) in
    let (few', total) = total-new c.loop-page.queues.items c.loop-page._page c.loop-page.invariant.queues few in
    (few', total, flags-new c.loop-page.queues.items c.loop-page.flags.items c.loop-page._page c.loop-page.invariant.queues c.loop-page.invariant.flags)

pub returns : goal.returns
returns c =
    let all : c.loop-page._page ≡ c.args.pages = omega (arith, c.loop-page.auto._page-end, c.loop-page-test.false) in
    shows-new c.loop-page.queues.items c.loop-page._page c.args.pages c.loop-page.invariant.queues all
