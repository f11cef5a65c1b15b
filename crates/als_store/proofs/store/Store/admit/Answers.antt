use Rattle.std.proofs.Common.{◌≡◌, ℕ, List, ◌+◌, ◌≤◌, ◌∷◌, ◌++◌, [], sym, subst, refl, ap, ◌∙◌}
use Rattle.std.proofs.Common.{arith, inl, inr}
use Rattle.std.specs.Prelude.{◌*◌, true}
use Rattle.als_record.specs.Spelling.{IsRecord, record_len}
use Rattle.als_record.specs.declared.record.Record.{Record}
use Rattle.als_record.specs.LogText.{end_of, IsLog}
use Rattle.als_record.specs.Tail.{reserve_of}
use Rattle.als_record.specs.Pages.{change_of}
use Rattle.als_record.specs.Validity.{first_bad}
use Rattle.als_pool.specs.Pooled.{Pooled}
use Rattle.als_pool.specs.Bounds.{EndsBelow}
use Rattle.als_pool.specs.Images.{IsPoolOf}
use Rattle.als_store.specs.Stored.{routed}
use Rattle.als_store.specs.Spare.{Holding}
use Rattle.als_store.specs.Parts.{stored_of}
use Rattle.als_store.proofs.StoredParts.{can_route_change, valid_push, stored-again, stored-push}
use Rattle.als_store.proofs.StoredParts.{view-push, length-below_end, appended, too_long}
use Rattle.als_store.proofs.StoredParts.{not_too_long, short_push}
use Rattle.als_store.proofs.TakeoverLaws.{taken_fed}
use Rattle.als_pool.specs.Queues.{total_waiting}
use Rattle.als_store.specs.Takeover.{is_following}
use Rattle.als_store.proofs.JudgingLaws.{good_from}
use Rattle.als_tables.proofs.Counts.{commit_count-few}
use Rattle.als_record.specs.Shown.{shown}
use Rattle.als_store.proofs.store.Store.admit.Goals as goal

pub judge-requires : goal.judge-requires
judge-requires g c =
    let following = subst (λ (h : Holding). is_following h.stored ≡ true) (sym c.self.view_is)
    c.requires.following in
    c.self.invariant.judging ∙ following

pub returns-then-not-fits-clause-cause : goal.returns-then-not-fits-clause-cause
returns-then-not-fits-clause-cause g c =
    let s = c.self.inside in
    let fits = subst (λ (h : Holding). IsRecord h.stored.pages (shown c.args.logged.now))
    (sym c.self.view_is) c.requires.fits in
    let at = subst (λ (h : Holding). (shown c.args.logged.now).lsn.0 ≡ end_of h.stored.log)
    (sym c.self.view_is) c.requires.at in
    let good = good_from (first_bad s.log.log (shown c.args.logged.now)) c.judge.result c.in_ok-judge.was
    (c.judge.ensures s.pages s.log.log c.self.invariant.judged c.self.invariant.is_log fits
    at) in
    let short = short_push s.pages s.log.blocks s.log.log (shown c.args.logged.now) fits
    c.end.ensures.facts.fits c.end.ensures.facts.few in
    let seen = stored_of s.pages s.log s.control s.pool.pool s.broken s.origin s.recovering in
    rw (← c.self.view_is)
    (inr (inl (
      good,
      too_long seen (shown c.args.logged.now) c.len_of-len.result c.reserve_after-reserve_after.result
          c.len_of-len.ensures (c.reserve_after-reserve_after.ensures s.pages s.log.log
          c.self.invariant.judged at good short) c.if-not-fits.ensures.1,
      refl,
    )))

pub invariant_of-self : goal.invariant_of-self
invariant_of-self g c =
    let s = c.self.inside in
    rw c.in_err-make_room.ensures.pages
    (stored-again s.pages s.count s.log s.control s.pool.pool s.validator s.broken s.origin
    s.recovering c.self.invariant c.make_room.new.log c.make_room.new.validator
    c.in_err-make_room.ensures.log
    (c.in_err-make_room.ensures.validator s.pages s.log.log c.self.invariant.judged)
    c.in_err-make_room.ensures.judging)

pub route_change-requires-clause-can : goal.route_change-requires-clause-can
route_change-requires-clause-can g c =
    let s = c.self.inside in
    let r = shown c.args.logged.now in
    let fits = subst (λ (h : Holding). IsRecord h.stored.pages r) (sym c.self.view_is)
    c.requires.fits in
    let at = subst (λ (h : Holding). r.lsn.0 ≡ end_of h.stored.log) (sym c.self.view_is)
    c.requires.at in
    let can = can_route_change s.pages s.count s.log s.control s.pool.pool s.validator s.broken
    s.origin s.recovering c.self.invariant r (change_of r) refl fits at
    (omega (arith, c.end.ensures.facts.fits, c.end.ensures.facts.few))
    c.change_can_follow.ensures in
    rw c.in_ok-make_room.ensures.pages can

pub note-requires-clause-records : goal.note-requires-clause-records
note-requires-clause-records g c =
    let facts = c.end.ensures.facts in
    omega (
      arith,
      c.self.invariant.held_is.records,
      length-below_end c.self.inside.log.log,
      facts.fits,
      facts.few,
    )

pub note-requires-clause-commits : goal.note-requires-clause-commits
note-requires-clause-commits g c =
    let facts = c.end.ensures.facts in
    omega (
      arith,
      c.self.invariant.held_is.commits,
      commit_count-few c.self.inside.log.log,
      length-below_end c.self.inside.log.log,
      facts.fits,
      facts.few,
    )

pub invariant_of-self-2 : goal.invariant_of-self-2
invariant_of-self-2 g c =
    let s = c.self.inside in
    let r = shown c.args.logged.now in
    let fits = subst (λ (h : Holding). IsRecord h.stored.pages r) (sym c.self.view_is)
    c.requires.fits in
    let at = subst (λ (h : Holding). r.lsn.0 ≡ end_of h.stored.log) (sym c.self.view_is)
    c.requires.at in
    let good = good_from (first_bad s.log.log r) c.judge.result c.in_ok-judge.was
    (c.judge.ensures s.pages s.log.log c.self.invariant.judged c.self.invariant.is_log fits
    at) in
    let short = short_push s.pages s.log.blocks s.log.log r fits c.end.ensures.facts.fits
    c.end.ensures.facts.few in
    let left : end_of s.log.log + record_len r + reserve_of (s.log.log ++ r ∷ [])
    ≤ 512 * s.log.blocks =
    omega (
      arith,
      c.len_of-len.ensures,
      c.reserve_after-reserve_after.ensures s.pages s.log.log
          c.self.invariant.judged at good,
      c.if-not-fits.ensures.0 refl,
    ) in
    let judged-room = c.in_ok-make_room.ensures.validator s.pages s.log.log
    c.self.invariant.judged in
    let judged = c.admit.ensures.kept s.pages s.log.log judged-room
    (valid_push s.pages s.log.log r c.self.invariant.is_log fits at good) in
    let can = can_route_change s.pages s.count s.log s.control s.pool.pool s.validator s.broken
    s.origin s.recovering c.self.invariant r (change_of r) refl fits at
    (omega (arith, c.end.ensures.facts.fits, c.end.ensures.facts.few))
    c.change_can_follow.ensures in
    let same = c.in_ok-make_room.ensures.pages in
    let following = subst (λ (h : Holding). is_following h.stored ≡ true) (sym c.self.view_is)
    c.requires.following in
    let keeps = subst (λ (v : Pooled). (log : List Record) (below : ℕ) → IsPoolOf log below v
    → IsLog v.frames.pages (log ++ r ∷ []) → r.lsn.0 ≡ end_of log
    → IsPoolOf (log ++ r ∷ []) below c.route_change.new.pool.pool) same
    c.route_change.ensures.keeps in
    let ends = c.route_change.ensures.ends s.log.log
    (subst (λ (v : Pooled). EndsBelow (end_of s.log.log) v) (sym same)
    c.self.invariant.paged.ends) at in
    stored-push s.pages s.count s.log s.control s.pool.pool s.validator s.broken s.origin
    s.recovering c.self.invariant c.append.new.log r c.route_change.new.pool.pool
    c.admit.new.validator c.note.new.self (c.note.ensures s.log.log c.self.invariant.held_is)
    fits at good left
    (appended s.log c.make_room.new.log c.append.new.log r c.in_ok-make_room.ensures.log
    c.append.ensures) judged
    (c.admit.ensures.judging ∙ c.in_ok-make_room.ensures.judging) can (c.route_change.ensures.value
    ∙ ap (λ (v : Pooled). routed v (change_of r)) same) keeps ends
    (λ taken. taken_fed s.log.log s.control.synced s.control.since s.recovering
    (total_waiting s.pool.pool.waits) taken r (total_waiting c.route_change.new.pool.pool.waits)
    following)

pub returns-clause-ok : goal.returns-clause-ok
returns-clause-ok g c =
    let s = c.self.inside in
    let r = shown c.args.logged.now in
    let fits = subst (λ (h : Holding). IsRecord h.stored.pages r) (sym c.self.view_is)
    c.requires.fits in
    let at = subst (λ (h : Holding). r.lsn.0 ≡ end_of h.stored.log) (sym c.self.view_is)
    c.requires.at in
    let good = good_from (first_bad s.log.log r) c.judge.result c.in_ok-judge.was
    (c.judge.ensures s.pages s.log.log c.self.invariant.judged c.self.invariant.is_log fits
    at) in
    let can = can_route_change s.pages s.count s.log s.control s.pool.pool s.validator s.broken
    s.origin s.recovering c.self.invariant r (change_of r) refl fits at
    (omega (arith, c.end.ensures.facts.fits, c.end.ensures.facts.few))
    c.change_can_follow.ensures in
    let same = c.in_ok-make_room.ensures.pages in
    let pushed = view-push s.pages s.count s.log s.control s.pool.pool s.validator s.broken s.origin
    s.recovering c.self.invariant c.append.new.log r c.route_change.new.pool.pool
    (appended s.log c.make_room.new.log c.append.new.log r c.in_ok-make_room.ensures.log
    c.append.ensures) can (c.route_change.ensures.value
    ∙ ap (λ (v : Pooled). routed v (change_of r)) same) in
    rw (← c.self.view_is) (good, pushed)

pub returns-in_err-make_room-clause-full : goal.returns-in_err-make_room-clause-full
returns-in_err-make_room-clause-full g c =
    let s = c.self.inside in
    let r = shown c.args.logged.now in
    let seen = stored_of s.pages s.log s.control s.pool.pool s.broken s.origin s.recovering in
    let fits = subst (λ (h : Holding). IsRecord h.stored.pages r) (sym c.self.view_is)
    c.requires.fits in
    let at = subst (λ (h : Holding). r.lsn.0 ≡ end_of h.stored.log) (sym c.self.view_is)
    c.requires.at in
    let good = good_from (first_bad s.log.log r) c.judge.result c.in_ok-judge.was
    (c.judge.ensures s.pages s.log.log c.self.invariant.judged c.self.invariant.is_log fits
    at) in
    let short = short_push s.pages s.log.blocks s.log.log r fits c.end.ensures.facts.fits
    c.end.ensures.facts.few in
    rw (← c.self.view_is)
    (λ none long. absurd (not_too_long seen r c.len_of-len.result
    c.reserve_after-reserve_after.result c.len_of-len.ensures
    (c.reserve_after-reserve_after.ensures s.pages s.log.log c.self.invariant.judged at good short)
    (c.if-not-fits.ensures.0 refl) long))

pub returns-clause-full : goal.returns-clause-full
returns-clause-full g c =
    let s = c.self.inside in
    let r = shown c.args.logged.now in
    let seen = stored_of s.pages s.log s.control s.pool.pool s.broken s.origin s.recovering in
    let fits = subst (λ (h : Holding). IsRecord h.stored.pages r) (sym c.self.view_is)
    c.requires.fits in
    let at = subst (λ (h : Holding). r.lsn.0 ≡ end_of h.stored.log) (sym c.self.view_is)
    c.requires.at in
    let good = good_from (first_bad s.log.log r) c.judge.result c.in_ok-judge.was
    (c.judge.ensures s.pages s.log.log c.self.invariant.judged c.self.invariant.is_log fits
    at) in
    let short = short_push s.pages s.log.blocks s.log.log r fits c.end.ensures.facts.fits
    c.end.ensures.facts.few in
    rw (← c.self.view_is)
    (λ none long. absurd (not_too_long seen r c.len_of-len.result
    c.reserve_after-reserve_after.result c.len_of-len.ensures
    (c.reserve_after-reserve_after.ensures s.pages s.log.log c.self.invariant.judged at good short)
    (c.if-not-fits.ensures.0 refl) long))

pub returns-in_err-make_room-clause-wanted : goal.returns-in_err-make_room-clause-wanted
returns-in_err-make_room-clause-wanted g c =
    let s = c.self.inside in
    let r = shown c.args.logged.now in
    let fits = subst (λ (h : Holding). IsRecord h.stored.pages r) (sym c.self.view_is)
    c.requires.fits in
    let at = subst (λ (h : Holding). r.lsn.0 ≡ end_of h.stored.log) (sym c.self.view_is)
    c.requires.at in
    let good = good_from (first_bad s.log.log r) c.judge.result c.in_ok-judge.was
    (c.judge.ensures s.pages s.log.log c.self.invariant.judged c.self.invariant.is_log fits
    at) in
    let short = short_push s.pages s.log.blocks s.log.log r fits c.end.ensures.facts.fits
    c.end.ensures.facts.few in
    rw (← c.self.view_is) (λ _. good)
