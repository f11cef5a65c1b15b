use Rattle.std.proofs.Common.{◌≡◌, ◌<◌, ◌-◌, length, drop, ap, sym, ◌∙◌, arith, List, length-drop}
use Rattle.als_record.specs.declared.change.Change.{Change}
use Rattle.als_lease.specs.Queue.{Queue}
use Rattle.als_pool.proofs.QueueLists.{queue_at}
use Rattle.als_pool.proofs.QueueSteps.{waits-set, places-same, kept-total, inside_of, fits_in, flags-after}
use Rattle.als_pool.proofs.queues.Queues.drop_front.Goals as goal

pub invariant_of-self : goal.invariant_of-self
invariant_of-self c =
    let s = c.self.inside in
    let old = c.index_mut.result.now in
    let inside : c.args.page < length s.queues.items = inside_of s.queues.items c.args.self.now c.args.page c.self.view_is c.requires.in_range in
    let less : length c.drop_and_flag.new.self.pending ≡ length (drop c.args.count old.pending) = ap (λ (q : Queue). length q.pending) c.drop_and_flag.ensures.value in
    let fits = fits_in s.queues.items c.args.self.now c.args.page c.args.count old c.self.view_is inside c.index_mut.ensures.value c.requires.some in
    let (few, total) = kept-total s.queues.items c.args.page s.total (s.total - c.args.count) old c.drop_and_flag.new.self inside c.index_mut.ensures.value c.self.invariant.0 c.self.invariant.1
    (omega (arith, less, length-drop c.args.count old.pending, fits.0, fits.1, c.self.invariant.1)) in
    (few, total, flags-after s.queues.items c.args.page c.drop_and_flag.new.self s.flags.items c.drop_and_flag.result c.self.invariant.2 c.drop_and_flag.ensures.flag)

pub returns-clause-waits : goal.returns-clause-waits
returns-clause-waits c =
    let s = c.self.inside in
    let old = c.index_mut.result.now in
    let inside : c.args.page < length s.queues.items = inside_of s.queues.items c.args.self.now c.args.page c.self.view_is c.requires.in_range in
    rw (← c.self.view_is)
    (waits-set s.queues.items c.args.page c.drop_and_flag.new.self _ (ap (λ (q : Queue). q.pending) c.drop_and_flag.ensures.value ∙ ap (λ (cs : List Change). drop c.args.count cs) (sym (queue_at s.queues.items c.args.page old inside c.index_mut.ensures.value))))

pub returns-clause-places : goal.returns-clause-places
returns-clause-places c =
    let s = c.self.inside in
    let old = c.index_mut.result.now in
    let inside : c.args.page < length s.queues.items = inside_of s.queues.items c.args.self.now c.args.page c.self.view_is c.requires.in_range in
    rw (← c.self.view_is) (places-same s.queues.items c.args.page old c.drop_and_flag.new.self inside c.index_mut.ensures.value (ap (λ (q : Queue). q.has_room) c.drop_and_flag.ensures.value))
