use Rattle.std.proofs.Common.{◌≡◌, true, [], ◌∷◌, refl, sym, subst, ap, ◌∙◌, inr}
use Rattle.als_record.specs.declared.record.Record.{Record}
use Rattle.als_record.specs.LogText.{end_of}
use Rattle.als_record.specs.Shown.{shown}
use Rattle.als_record.specs.Spelling.{IsRecord}
use Rattle.als_record.specs.Tail.{decision}
use Rattle.als_record.specs.Transactions.{is_in_doubt}
use Rattle.als_reopen.specs.Taken.{Decides}
use Rattle.als_store.specs.Spare.{Holding, HasSpare}
use Rattle.als_store.specs.Stored.{with_records}
use Rattle.als_store.specs.Parts.{stored_of}
use Rattle.als_store.specs.Takeover.{is_primary, decision_body}
use Rattle.als_store.proofs.DecisionLaws.{decides}
use Rattle.als_store.proofs.SealLaws.{next_of}
use Rattle.als_store.proofs.store.Store.resolve.Goals as goal

pub hold_next-held-requires-clause-next : goal.hold_next-held-requires-clause-next
hold_next-held-requires-clause-next g c =
    let s = c.self.inside in
    let doubt = subst (λ (h : Holding). is_in_doubt h.stored.log c.args.trans.0 ≡ true) (sym c.self.view_is) c.requires.doubt in
    let made : c.decided_by-logged.result ≡ decision s.log.log c.args.trans.0 (decision_body c.args.verdict) = c.decided_by-logged.ensures s.pages s.log.log c.self.invariant.judged doubt c.end-lsn.ensures.end in
    let seen : shown c.view.result ≡ decision s.log.log c.args.trans.0 (decision_body c.args.verdict) = c.view.ensures ∙ made in
    let primary = subst (λ (h : Holding). is_primary h.stored ≡ true) (sym c.self.view_is) c.requires.primary in
    rw (← c.self.view_is) (inr (primary, subst (λ (r : Record). Decides s.log.log r) (sym seen) (decides s.log.log c.args.trans.0 c.args.verdict doubt)))

pub hold_next-held-requires-clause-fits : goal.hold_next-held-requires-clause-fits
hold_next-held-requires-clause-fits g c =
    let s = c.self.inside in
    let doubt = subst (λ (h : Holding). is_in_doubt h.stored.log c.args.trans.0 ≡ true) (sym c.self.view_is) c.requires.doubt in
    let made : c.decided_by-logged.result ≡ decision s.log.log c.args.trans.0 (decision_body c.args.verdict) = c.decided_by-logged.ensures s.pages s.log.log c.self.invariant.judged doubt c.end-lsn.ensures.end in
    let seen : shown c.view.result ≡ decision s.log.log c.args.trans.0 (decision_body c.args.verdict) = c.view.ensures ∙ made in
    let primary = subst (λ (h : Holding). is_primary h.stored ≡ true) (sym c.self.view_is) c.requires.primary in
    let d = decides s.log.log c.args.trans.0 c.args.verdict doubt in
    let n = next_of s.pages s.count s.log s.control s.pool.pool s.validator s.broken s.origin s.recovering c.self.invariant c.end-lsn.ensures.facts c.newest.ensures.facts (decision s.log.log c.args.trans.0 (decision_body c.args.verdict)) (inr (primary, d)) in
    rw (← c.self.view_is) (subst (λ (r : Record). IsRecord s.pages r) (sym seen) n.fits)

pub hold_next-held-requires-clause-at : goal.hold_next-held-requires-clause-at
hold_next-held-requires-clause-at g c =
    let s = c.self.inside in
    let doubt = subst (λ (h : Holding). is_in_doubt h.stored.log c.args.trans.0 ≡ true) (sym c.self.view_is) c.requires.doubt in
    let made : c.decided_by-logged.result ≡ decision s.log.log c.args.trans.0 (decision_body c.args.verdict) = c.decided_by-logged.ensures s.pages s.log.log c.self.invariant.judged doubt c.end-lsn.ensures.end in
    let seen : shown c.view.result ≡ decision s.log.log c.args.trans.0 (decision_body c.args.verdict) = c.view.ensures ∙ made in
    let primary = subst (λ (h : Holding). is_primary h.stored ≡ true) (sym c.self.view_is) c.requires.primary in
    let d = decides s.log.log c.args.trans.0 c.args.verdict doubt in
    let n = next_of s.pages s.count s.log s.control s.pool.pool s.validator s.broken s.origin s.recovering c.self.invariant c.end-lsn.ensures.facts c.newest.ensures.facts (decision s.log.log c.args.trans.0 (decision_body c.args.verdict)) (inr (primary, d)) in
    rw (← c.self.view_is) (subst (λ (r : Record). r.lsn.0 ≡ end_of s.log.log) (sym seen) n.at)

pub returns-in-Ok-clause-ok : goal.returns-in-Ok-clause-ok
returns-in-Ok-clause-ok g c =
    let s = c.self.inside in
    let doubt = subst (λ (h : Holding). is_in_doubt h.stored.log c.args.trans.0 ≡ true) (sym c.self.view_is) c.requires.doubt in
    let made : c.decided_by-logged.result ≡ decision s.log.log c.args.trans.0 (decision_body c.args.verdict) = c.decided_by-logged.ensures s.pages s.log.log c.self.invariant.judged doubt c.end-lsn.ensures.end in
    let seen : shown c.view.result ≡ decision s.log.log c.args.trans.0 (decision_body c.args.verdict) = c.view.ensures ∙ made in
    rw (← c.self.view_is)
    (record {
      place = c.end-lsn.ensures.end;
      after = c.in-Ok.ensures.ok ∙ ap (λ (h : Holding). with_records h.stored (shown c.view.result ∷ [])) (sym c.self.view_is)
          ∙ ap (λ (r : Record). with_records (stored_of s.pages s.log s.control s.pool.pool s.broken s.origin s.recovering) (r ∷ [])) seen;
    })

pub returns-in-Ok-clause-reserved : goal.returns-in-Ok-clause-reserved
returns-in-Ok-clause-reserved g c room = refl

pub returns-in-Err-clause-err : goal.returns-in-Err-clause-err
returns-in-Err-clause-err g c = c.in-Err.ensures.err

pub returns-in-Err-clause-reserved : goal.returns-in-Err-clause-reserved
returns-in-Err-clause-reserved g c =
    let s = c.self.inside in
    let doubt = subst (λ (h : Holding). is_in_doubt h.stored.log c.args.trans.0 ≡ true) (sym c.self.view_is) c.requires.doubt in
    let made : c.decided_by-logged.result ≡ decision s.log.log c.args.trans.0 (decision_body c.args.verdict) = c.decided_by-logged.ensures s.pages s.log.log c.self.invariant.judged doubt c.end-lsn.ensures.end in
    let seen : shown c.view.result ≡ decision s.log.log c.args.trans.0 (decision_body c.args.verdict) = c.view.ensures ∙ made in
    let out : decision s.log.log c.args.trans.0 (decision_body c.args.verdict) ≡ decision c.args.self.now.stored.log c.args.trans.0 (decision_body c.args.verdict) = ap (λ (h : Holding). decision h.stored.log c.args.trans.0 (decision_body c.args.verdict)) c.self.view_is in
    λ room. c.in-Err.ensures.reserved (subst (λ (r : Record). HasSpare c.args.self.now.spare r) (sym (seen ∙ out)) room)
