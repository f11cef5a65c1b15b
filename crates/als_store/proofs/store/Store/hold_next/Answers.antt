use Rattle.std.proofs.Common.{◌≡◌, ℕ, List, ◌∷◌, ◌++◌, [], sym, subst, refl, ap, ◌∙◌, arith}
use Rattle.als_record.specs.Spelling.{IsRecord}
use Rattle.als_record.specs.declared.record.Record.{Record}
use Rattle.als_record.specs.LogText.{end_of, IsLog}
use Rattle.als_record.specs.Pages.{change_of}
use Rattle.als_pool.specs.Queues.{total_waiting}
use Rattle.als_pool.specs.Pooled.{Pooled}
use Rattle.als_pool.specs.Bounds.{EndsBelow}
use Rattle.als_pool.specs.Images.{IsPoolOf}
use Rattle.als_store.specs.Stored.{routed}
use Rattle.als_store.specs.Spare.{Holding}
use Rattle.als_store.specs.Takeover.{ComesNext}
use Rattle.als_store.proofs.StoredParts.{can_route_change, valid_push, stored-again, stored-push, length-below_end, appended, short_push}
use Rattle.als_store.proofs.TakeoverLaws.{taken_next}
use Rattle.als_store.proofs.SealLaws.{next_of}
use Rattle.als_tables.proofs.Counts.{commit_count-few}
use Rattle.als_record.specs.Shown.{shown}
use Rattle.als_store.proofs.store.Store.hold_next.Goals as goal

pub invariant_of-self : goal.invariant_of-self
invariant_of-self g c =
    let s = c.self.inside in
    rw c.in_err-make_room.ensures.pages
    (stored-again s.pages s.count s.log s.control s.pool.pool s.validator s.broken s.origin s.recovering c.self.invariant c.make_room.new.log c.make_room.new.validator c.in_err-make_room.ensures.log
    (c.in_err-make_room.ensures.validator s.pages s.log.log c.self.invariant.judged)
    c.in_err-make_room.ensures.judging)

pub route_change-requires-clause-can : goal.route_change-requires-clause-can
route_change-requires-clause-can g c =
    let s = c.self.inside in
    let r = shown c.args.seen.now in
    let fits = subst (λ (h : Holding). IsRecord h.stored.pages r) (sym c.self.view_is) c.requires.fits in
    let at = subst (λ (h : Holding). r.lsn.0 ≡ end_of h.stored.log) (sym c.self.view_is) c.requires.at in
    let can = can_route_change s.pages s.count s.log s.control s.pool.pool s.validator s.broken s.origin s.recovering c.self.invariant r (change_of r) refl fits at (omega (arith, c.end.ensures.facts.fits, c.end.ensures.facts.few)) c.change_can_follow.ensures in
    rw c.in_ok-make_room.ensures.pages can

pub append_made-requires-clause-device : goal.append_made-requires-clause-device
append_made-requires-clause-device g c =
    let s = c.self.inside in
    let r = shown c.args.seen.now in
    let next = subst (λ (h : Holding). ComesNext h.stored r) (sym c.self.view_is) c.requires.next in
    let n = next_of s.pages s.count s.log s.control s.pool.pool s.validator s.broken s.origin s.recovering c.self.invariant c.end.ensures.facts c.newest.ensures.facts r next in
    let short = short_push s.pages s.log.blocks s.log.log r n.fits c.end.ensures.facts.fits c.end.ensures.facts.few in
    rw c.in_ok-make_room.ensures.log (omega (arith, n.left, c.reserve_after-reserve_after.ensures s.pages s.log.log c.self.invariant.judged n.at n.good short))

pub note-requires-clause-records : goal.note-requires-clause-records
note-requires-clause-records g c =
    let facts = c.end.ensures.facts in
    omega (arith, c.self.invariant.held_is.records, length-below_end c.self.inside.log.log, facts.fits, facts.few)

pub note-requires-clause-commits : goal.note-requires-clause-commits
note-requires-clause-commits g c =
    let facts = c.end.ensures.facts in
    omega (arith, c.self.invariant.held_is.commits, commit_count-few c.self.inside.log.log, length-below_end c.self.inside.log.log, facts.fits, facts.few)

pub invariant_of-self-2 : goal.invariant_of-self-2
invariant_of-self-2 g c =
    let s = c.self.inside in
    let r = shown c.args.seen.now in
    let next = subst (λ (h : Holding). ComesNext h.stored r) (sym c.self.view_is) c.requires.next in
    let n = next_of s.pages s.count s.log s.control s.pool.pool s.validator s.broken s.origin s.recovering c.self.invariant c.end.ensures.facts c.newest.ensures.facts r next in
    let judged-room = c.in_ok-make_room.ensures.validator s.pages s.log.log c.self.invariant.judged in
    let judged = c.admit.ensures.kept s.pages s.log.log judged-room (valid_push s.pages s.log.log r c.self.invariant.is_log n.fits n.at n.good) in
    let can = can_route_change s.pages s.count s.log s.control s.pool.pool s.validator s.broken s.origin s.recovering c.self.invariant r (change_of r) refl n.fits n.at (omega (arith, c.end.ensures.facts.fits, c.end.ensures.facts.few)) c.change_can_follow.ensures in
    let same = c.in_ok-make_room.ensures.pages in
    let keeps = subst (λ (v : Pooled). (log : List Record) (below : ℕ) → IsPoolOf log below v → IsLog v.frames.pages (log ++ r ∷ []) → r.lsn.0 ≡ end_of log → IsPoolOf (log ++ r ∷ []) below c.route_change.new.pool.pool) same c.route_change.ensures.keeps in
    let ends = c.route_change.ensures.ends s.log.log (subst (λ (v : Pooled). EndsBelow (end_of s.log.log) v) (sym same) c.self.invariant.paged.ends) n.at in
    stored-push s.pages s.count s.log s.control s.pool.pool s.validator s.broken s.origin s.recovering c.self.invariant c.append_made.new.log r c.route_change.new.pool.pool c.admit.new.validator c.note.new.self (c.note.ensures s.log.log c.self.invariant.held_is) n.fits n.at n.good n.left
    (appended s.log c.make_room.new.log c.append_made.new.log r c.in_ok-make_room.ensures.log c.append_made.ensures) judged
    (c.admit.ensures.judging ∙ c.in_ok-make_room.ensures.judging) can (c.route_change.ensures.value ∙ ap (λ (v : Pooled). routed v (change_of r)) same) keeps ends
    (λ taken. taken_next s.log.log s.control.synced s.control.since s.recovering (total_waiting s.pool.pool.waits) taken r (total_waiting c.route_change.new.pool.pool.waits) next)
