use Rattle.std.proofs.Common.{◌≡◌, ◌<◌, length, true, ap, ap₂, arith, List, Bool}
use Rattle.als_record.specs.declared.change.Change.{Change}
use Rattle.als_lease.specs.Queue.{Queue}
use Rattle.als_pool.specs.Queues.{Waiting}
use Rattle.als_pool.proofs.QueueSteps.{waits-same, places-set, kept-total, inside_of, place-set, flags-same}
use Rattle.als_pool.proofs.queues.Queues.reserve.Goals as goal

pub invariant_of-self-2 : goal.invariant_of-self-2
invariant_of-self-2 c =
    let s = c.self.inside in
    let old = c.index_mut-queue.result.now in
    let inside : c.args.page < length s.queues.items = inside_of s.queues.items c.args.self.now c.args.page c.self.view_is c.requires in
    let same : length c.reserve.new.self.pending ≡ length old.pending = ap (λ (q : Queue). length q.pending) c.in_ok-reserve.ensures.ok in
    let (few, total) = kept-total s.queues.items c.args.page s.total s.total old c.reserve.new.self inside c.index_mut-queue.ensures.value c.self.invariant.0 c.self.invariant.1 (omega (arith, same)) in
    (few, total, flags-same s.queues.items c.args.page old c.reserve.new.self s.flags.items inside c.index_mut-queue.ensures.value (ap (λ (q : Queue). q.pending) c.in_ok-reserve.ensures.ok) c.self.invariant.2)

pub returns-clause-ok : goal.returns-clause-ok
returns-clause-ok c =
    let s = c.self.inside in
    let old = c.index_mut-queue.result.now in
    let inside : c.args.page < length s.queues.items = inside_of s.queues.items c.args.self.now c.args.page c.self.view_is c.requires in
    let make : List (List Change) → List Bool → Waiting = λ w p. record { waits = w; places = p } in
    rw (← c.self.view_is)
    (ap₂ make (waits-same s.queues.items c.args.page old c.reserve.new.self inside c.index_mut-queue.ensures.value (ap (λ (q : Queue). q.pending) c.in_ok-reserve.ensures.ok))
    (places-set s.queues.items c.args.page c.reserve.new.self true (ap (λ (q : Queue). q.has_room) c.in_ok-reserve.ensures.ok)))

pub returns-clause-place : goal.returns-clause-place
returns-clause-place c =
    let s = c.self.inside in
    let inside : c.args.page < length s.queues.items = inside_of s.queues.items c.args.self.now c.args.page c.self.view_is c.requires in
    place-set s.queues.items c.args.page c.reserve.new.self inside (ap (λ (q : Queue). q.has_room) c.in_ok-reserve.ensures.ok)
