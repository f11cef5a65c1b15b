use Rattle.std.proofs.Common.{inl, ◌≡◌, ◌<◌, ℕ, List, [], length, drop, None, true≢false, refl, sym, ap, subst, ◌∙◌}
use Rattle.std.specs.Prelude.{slice_set}
use Rattle.std.specs.Vec.{vec_len}
use Rattle.std.proofs.lemmas.List.{get_or-set_same}
use Rattle.std.proofs.lemmas.Result.{err_from_is_err_and}
use Rattle.als_record.specs.declared.change.Change.{Change}
use Rattle.als_page.specs.Page.{state_of}
use Rattle.als_frames.specs.Frames.{Paged, frame_of}
use Rattle.als_frames.specs.Outcomes.{PutsIn}
use Rattle.als_dirty.specs.Entries.{after_load}
use Rattle.als_dirty.specs.Images.{first_lsn}
use Rattle.als_pool.specs.Queues.{pending_of, above}
use Rattle.als_pool.specs.Pooled.{Held, Pooled}
use Rattle.als_pool.specs.Outcomes.{Loads, HasNoRoom}
use Rattle.als_pool.proofs.QueueLists.{none_left}
use Rattle.als_pool.proofs.QueueSteps.{count-fits}
use Rattle.als_pool.proofs.LeaseSteps.{can_be}
use Rattle.als_pool.proofs.Keeping.{fetch_refused}
use Rattle.als_pool.proofs.Ordering.{left_is, pooled-loads, pooled-same}
use Rattle.als_pool.proofs.pool.Pool.load.Goals as goal

pub invariant_of-self : goal.invariant_of-self
invariant_of-self g c =
    let s = c.self.inside in
    let old : Pooled = record { frames = s.frames.paged; dirty = s.dirty; waits = s.queues.waits; unread = s.unread.items; next = s.numbers } in
    let same = fetch_refused c.in_err-found.field-0.0 s.frames.paged c.fetch.new.self.paged c.args.page c.args.end.0 c.in_err-found.ensures.err in
    pooled-same old c.fetch.new.self.paged same.0 same.1 c.self.invariant

pub returns-in_err-reserve-clause-err : goal.returns-in_err-reserve-clause-err
returns-in_err-reserve-clause-err g c =
    let p = err_from_is_err_and c.from_residual-in_err-reserve.result c.from_residual-in_err-reserve.ensures.1 in
    let s = c.self.inside in
    let old : Held = record { pool = record { frames = s.frames.paged; dirty = s.dirty; waits = s.queues.waits; unread = s.unread.items; next = s.numbers }; room = record { frames = s.frames.spare; places = s.queues.places; leases = vec_len s.rooms } } in
    let new : Held = record { pool = record old.pool { frames = c.reserve.new.self.paged }; room = record { frames = c.reserve.new.self.spare; places = s.queues.places; leases = vec_len s.rooms } } in
    let same : c.reserve.new.self.paged ≡ s.frames.paged = c.in_err-reserve.ensures.same ∙ c.in_ok-found.ensures.same in
    let left : c.fetch.new.self.spare ≡ 0 = none_left c.fetch.new.self.spare (λ has. true≢false (sym (c.in_err-reserve.ensures.reserved has))) in
    let absent : frame_of old.pool.frames c.args.page ≡ None = subst (λ (v : Held). frame_of v.pool.frames c.args.page ≡ None) (sym c.self.view_is) c.requires.absent in
    let it : HasNoRoom old new c.args.page c.args.end.0 = record {
      can = can_be old.pool c.args.page c.args.end.0 (state_of c.in_ok-found.found) absent c.in_ok-found.ensures.ok;
      none = inl (absent, sym c.in_ok-found.ensures.spare ∙ left);
      same = λ j. record old.pool { frames = same j };
    } in
    rw (p.1, p.2, c.in_err-reserve.ensures.memory, ← c.self.view_is) it

pub drop_front-requires-clause-some : goal.drop_front-requires-clause-some
drop_front-requires-clause-some g c = rw c.count_up_to-count.ensures (count-fits c.lsn.result (pending_of c.self.inside.queues.waits c.args.page))

pub invariant_of-self-2 : goal.invariant_of-self-2
invariant_of-self-2 g c =
    let s = c.self.inside in
    let content = state_of c.in_ok-found.found in
    let w = pending_of s.queues.waits c.args.page in
    let old : Pooled = record { frames = s.frames.paged; dirty = s.dirty; waits = s.queues.waits; unread = s.unread.items; next = s.numbers } in
    let new : Pooled = record { frames = c.put.new.self.paged; dirty = c.loaded.new.self; waits = c.drop_front.new.self.waits; unread = slice_set s.unread.items c.args.page None; next = s.numbers } in
    let inside : c.args.page < length s.queues.waits = subst (λ (v : Held). c.args.page < length v.pool.waits) (sym c.self.view_is) c.requires.in_range in
    let same : c.reserve.new.self.paged ≡ s.frames.paged = c.in_ok-reserve.ensures.same ∙ c.in_ok-found.ensures.same in
    let puts : PutsIn s.frames.paged c.put.new.self.paged c.args.page content
    = subst (λ (v : Paged). PutsIn v c.put.new.self.paged c.args.page content) same
    (subst (λ (n : ℕ). PutsIn c.reserve.new.self.paged c.put.new.self.paged n content) c.in_ok-found.ensures.number c.put.ensures.puts) in
    let left : drop c.count_up_to-count.result w ≡ above content.lsn w
    = ap (λ (n : ℕ). drop n w) c.count_up_to-count.ensures ∙ left_is old c.args.page c.lsn.result inside c.self.invariant ∙ ap (λ (n : ℕ). above n w) c.lsn.ensures in
    pooled-loads old new c.args.page content (drop c.count_up_to-count.result w) (after_load c.first-next.result) inside puts left c.drop_front.ensures.waits c.loaded.ensures.value refl c.self.invariant

pub returns-clause-ok : goal.returns-clause-ok
returns-clause-ok g c =
    let s = c.self.inside in
    let content = state_of c.in_ok-found.found in
    let w = pending_of s.queues.waits c.args.page in
    let old : Pooled = record { frames = s.frames.paged; dirty = s.dirty; waits = s.queues.waits; unread = s.unread.items; next = s.numbers } in
    let new : Pooled = record { frames = c.put.new.self.paged; dirty = c.loaded.new.self; waits = c.drop_front.new.self.waits; unread = slice_set s.unread.items c.args.page None; next = s.numbers } in
    let inside : c.args.page < length s.queues.waits = subst (λ (v : Held). c.args.page < length v.pool.waits) (sym c.self.view_is) c.requires.in_range in
    let same : c.reserve.new.self.paged ≡ s.frames.paged = c.in_ok-reserve.ensures.same ∙ c.in_ok-found.ensures.same in
    let puts : PutsIn s.frames.paged c.put.new.self.paged c.args.page content
    = subst (λ (v : Paged). PutsIn v c.put.new.self.paged c.args.page content) same
    (subst (λ (n : ℕ). PutsIn c.reserve.new.self.paged c.put.new.self.paged n content) c.in_ok-found.ensures.number c.put.ensures.puts) in
    let left : drop c.count_up_to-count.result w ≡ above content.lsn w
    = ap (λ (n : ℕ). drop n w) c.count_up_to-count.ensures ∙ left_is old c.args.page c.lsn.result inside c.self.invariant ∙ ap (λ (n : ℕ). above n w) c.lsn.ensures in
    let waits : c.drop_front.new.self.waits ≡ slice_set s.queues.waits c.args.page (above content.lsn w)
    = c.drop_front.ensures.waits ∙ ap (λ (cs : List Change). slice_set s.queues.waits c.args.page cs) left in
    let first : c.first-next.result ≡ first_lsn (above content.lsn w)
    = c.first-next.ensures ∙ ap (λ (ws : List (List Change)). first_lsn (pending_of ws c.args.page)) waits ∙ ap first_lsn (get_or-set_same s.queues.waits c.args.page (above content.lsn w) [] inside) in
    let rows : c.loaded.new.self ≡ slice_set s.dirty c.args.page (after_load (first_lsn (above content.lsn w)))
    = c.loaded.ensures.value ∙ ap (λ n. slice_set s.dirty c.args.page (after_load n)) first in
    let it : Loads old new c.args.page c.args.end.0 = record {
      content = content;
      absent = subst (λ (v : Held). frame_of v.pool.frames c.args.page ≡ None) (sym c.self.view_is) c.requires.absent;
      fetched = c.in_ok-found.ensures.ok;
      puts = puts;
      same = λ j. record new { dirty = rows j; waits = waits j };
    } in
    rw (← c.self.view_is) it
