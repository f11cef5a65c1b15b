use Rattle.std.proofs.Common.{◌≡◌, ◌<◌, ◌+◌, ◌++◌, ◌∷◌, [], length, false, ap, sym, ◌∙◌, arith, List, length-append}
use Rattle.als_record.specs.declared.change.Change.{Change}
use Rattle.als_lease.specs.Queue.{Queue, flag_of}
use Rattle.als_pool.proofs.QueueLists.{queue_at}
use Rattle.als_pool.proofs.QueueSteps.{waits-set, places-set, kept-total, inside_of, flags-after, flag-more}
use Rattle.als_pool.proofs.queues.Queues.push.Goals as goal

pub invariant_of-self : goal.invariant_of-self
invariant_of-self c =
    let s = c.self.inside in
    let old = c.index_mut.result.now in
    let inside : c.args.change.key.page < length s.queues.items = inside_of s.queues.items c.args.self.now c.args.change.key.page c.self.view_is c.requires.in_range in
    let more : length c.push.new.self.pending ≡ length (old.pending ++ c.args.change ∷ []) = ap (λ (q : Queue). length q.pending) c.push.ensures in
    let (few, total) = kept-total s.queues.items c.args.change.key.page s.total (s.total + 1) old c.push.new.self inside c.index_mut.ensures.value c.self.invariant.0 c.self.invariant.1
    (omega (arith, more, length-append old.pending (c.args.change ∷ []))) in
    let one : 1 ≡ flag_of c.push.new.self.pending = flag-more old.pending c.args.change ∙ sym (ap (λ (q : Queue). flag_of q.pending) c.push.ensures) in
    (few, total, flags-after s.queues.items c.args.change.key.page c.push.new.self s.flags.items 1 c.self.invariant.2 one)

pub returns-clause-waits : goal.returns-clause-waits
returns-clause-waits c =
    let s = c.self.inside in
    let old = c.index_mut.result.now in
    let inside : c.args.change.key.page < length s.queues.items = inside_of s.queues.items c.args.self.now c.args.change.key.page c.self.view_is c.requires.in_range in
    rw (← c.self.view_is)
    (waits-set s.queues.items c.args.change.key.page c.push.new.self _ (ap (λ (q : Queue). q.pending) c.push.ensures ∙ ap (λ (cs : List Change). cs ++ c.args.change ∷ []) (sym (queue_at s.queues.items c.args.change.key.page old inside c.index_mut.ensures.value))))

pub returns-clause-places : goal.returns-clause-places
returns-clause-places c =
    rw (← c.self.view_is) (places-set c.self.inside.queues.items c.args.change.key.page c.push.new.self false (ap (λ (q : Queue). q.has_room) c.push.ensures))
