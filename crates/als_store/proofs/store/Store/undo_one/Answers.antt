use Rattle.std.proofs.Common.{◌≡◌, [], ◌∷◌, refl, sym, subst, ap, ◌∙◌, inl, arith}
use Rattle.als_record.specs.declared.record.Record.{Record}
use Rattle.als_record.specs.LogText.{end_of}
use Rattle.als_record.specs.Shown.{shown}
use Rattle.als_record.specs.Spelling.{IsRecord}
use Rattle.als_store.specs.Spare.{HasSpare}
use Rattle.std.proofs.lemmas.Bool.{false≢true}
use Rattle.als_log.specs.Local.{Local}
use Rattle.als_store.specs.Stored.{with_records}
use Rattle.als_store.specs.Parts.{stored_of, spare_of}
use Rattle.als_reopen.specs.Taken.{IsNextOfTail}
use Rattle.als_store.proofs.SealLaws.{next_first, next_of, none_first, some_left}
use Rattle.als_store.proofs.StoredParts.{stored-unread}
use Rattle.als_store.proofs.store.Store.undo_one.Goals as goal

pub hold_next-held-requires-clause-next : goal.hold_next-held-requires-clause-next
hold_next-held-requires-clause-next g c =
    let s = c.self.inside in
    let e : c.in-Ok-Some.logged ≡ shown c.view.result = sym c.view.ensures in
    let next = next_first s.log.log c.in-Ok-Some.logged (sym (c.in-Ok-Some.ensures.next s.pages c.self.invariant.is_log.valid c.self.invariant.judged) ∙ c.in-Ok-Some.field-0-is) in
    rw c.in-Ok-Some.ensures.same (inl (subst (λ (r : Record). IsNextOfTail s.log.log r) e next))

pub hold_next-held-requires-clause-fits : goal.hold_next-held-requires-clause-fits
hold_next-held-requires-clause-fits g c =
    let s = c.self.inside in
    let e : c.in-Ok-Some.logged ≡ shown c.view.result = sym c.view.ensures in
    let n = next_of s.pages s.count s.log s.control s.pool.pool s.validator s.broken s.origin
    s.recovering c.self.invariant c.end.ensures.facts c.newest.ensures.facts c.in-Ok-Some.logged
    (inl (next_first s.log.log c.in-Ok-Some.logged (sym (c.in-Ok-Some.ensures.next s.pages c.self.invariant.is_log.valid c.self.invariant.judged) ∙ c.in-Ok-Some.field-0-is))) in
    subst (λ (r : Record). IsRecord s.pages r) e n.fits

pub hold_next-held-requires-clause-at : goal.hold_next-held-requires-clause-at
hold_next-held-requires-clause-at g c =
    let s = c.self.inside in
    let e : c.in-Ok-Some.logged ≡ shown c.view.result = sym c.view.ensures in
    let n = next_of s.pages s.count s.log s.control s.pool.pool s.validator s.broken s.origin
    s.recovering c.self.invariant c.end.ensures.facts c.newest.ensures.facts c.in-Ok-Some.logged
    (inl (next_first s.log.log c.in-Ok-Some.logged (sym (c.in-Ok-Some.ensures.next s.pages c.self.invariant.is_log.valid c.self.invariant.judged) ∙ c.in-Ok-Some.field-0-is))) in
    rw c.in-Ok-Some.ensures.same (subst (λ (r : Record). r.lsn.0 ≡ end_of s.log.log) e n.at)

pub returns-in-Ok-None-clause-err : goal.returns-in-Ok-None-clause-err
returns-in-Ok-None-clause-err g c =
    let s = c.self.inside in
    rw (← c.self.view_is)
    (none_first s.log.log (sym c.in-Ok-None.field-0-is ∙ c.in-Ok-None.ensures.next s.pages c.self.invariant.is_log.valid c.self.invariant.judged), ap (λ (x : Local). stored_of s.pages x s.control s.pool.pool s.broken s.origin s.recovering) c.in-Ok-None.ensures.same)

pub returns-in-Ok-clause-ok : goal.returns-in-Ok-clause-ok
returns-in-Ok-clause-ok g c =
    let s = c.self.inside in
    let n = next_first s.log.log c.in-Ok-Some.logged (sym (c.in-Ok-Some.ensures.next s.pages c.self.invariant.is_log.valid c.self.invariant.judged) ∙ c.in-Ok-Some.field-0-is) in
    rw (← c.self.view_is)
    (record {
      made = c.in-Ok-Some.logged;
      rest = n.rest;
      first = n.first;
      place = refl;
      after = c.in-Ok.ensures.ok ∙ ap (λ (r : Record). with_records (stored_of s.pages c.next_of_tail.new.log s.control s.pool.pool s.broken s.origin s.recovering) (r ∷ [])) c.view.ensures
          ∙ ap (λ (x : Local). with_records (stored_of s.pages x s.control s.pool.pool s.broken s.origin s.recovering) (c.in-Ok-Some.logged ∷ [])) c.in-Ok-Some.ensures.same;
    })

pub returns-in-Err-held-clause-err : goal.returns-in-Err-held-clause-err
returns-in-Err-held-clause-err g c =
    let s = c.self.inside in
    let n = next_first s.log.log c.in-Ok-Some.logged (sym (c.in-Ok-Some.ensures.next s.pages c.self.invariant.is_log.valid c.self.invariant.judged) ∙ c.in-Ok-Some.field-0-is) in
    let failed = c.in-Err-held.ensures.err in
    rw (← c.self.view_is, failed.0)
    (some_left s.log.log c.in-Ok-Some.logged n.rest n.first, failed.1 ∙ ap (λ (x : Local). stored_of s.pages x s.control s.pool.pool s.broken s.origin s.recovering) c.in-Ok-Some.ensures.same)

pub returns-in-Err-held-clause-reserved : goal.returns-in-Err-held-clause-reserved
returns-in-Err-held-clause-reserved g c =
    let s = c.self.inside in
    let n = next_first s.log.log c.in-Ok-Some.logged (sym (c.in-Ok-Some.ensures.next s.pages c.self.invariant.is_log.valid c.self.invariant.judged) ∙ c.in-Ok-Some.field-0-is) in
    rw (← c.self.view_is)
    (λ room is. false≢true (c.in-Err-held.ensures.reserved (rw c.in-Ok-Some.ensures.same
    (subst (λ (r : Record). HasSpare (spare_of s.log s.validator s.pool.room) r) (sym c.view.ensures) (room c.in-Ok-Some.logged n.rest n.first)))))

pub invariant_of-self-in-Err : goal.invariant_of-self-in-Err
invariant_of-self-in-Err g c =
    let s = c.self.inside in
    let failed = c.in-Err.ensures.err s.pages c.self.invariant.is_log.valid c.self.invariant.judged in
    stored-unread s.pages s.count s.log s.control s.pool.pool s.validator s.broken s.origin s.recovering c.self.invariant c.next_of_tail.new.log failed.1.same

pub returns-in-Err-clause-err : goal.returns-in-Err-clause-err
returns-in-Err-clause-err g c =
    let s = c.self.inside in
    let failed = c.in-Err.ensures.err s.pages c.self.invariant.is_log.valid c.self.invariant.judged in
    rw (← c.self.view_is, failed.0)
    (record { failed = omega (arith, failed.1.failed); after = ap (λ (x : Local). stored_of s.pages x s.control s.pool.pool s.broken s.origin s.recovering) failed.1.same })

pub returns-in-Err-clause-reserved : goal.returns-in-Err-clause-reserved
returns-in-Err-clause-reserved g c =
    let s = c.self.inside in
    let failed = c.in-Err.ensures.err s.pages c.self.invariant.is_log.valid c.self.invariant.judged in
    rw failed.0 (λ room is. absurd cc)
