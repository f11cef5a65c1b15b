use Rattle.std.proofs.Common.{◌≡◌, sym, subst}
use Rattle.std.specs.Prelude.{true, Ok}
use Rattle.als_record.specs.LogText.{end_of}
use Rattle.als_epochs.specs.Judging.{judged}
use Rattle.als_epochs.specs.declared.step.Step.TheVariants.{Adopt}
use Rattle.als_ckpt.specs.Control.{newest}
use Rattle.als_store.specs.Spare.{Holding}
use Rattle.als_store.specs.Takeover.{is_following, history_of}
use Rattle.als_store.proofs.AdoptLaws.{adopted_grows, adopt_continues, adopt_fits, stored-adopted, stored-adopt_torn}
use Rattle.als_store.proofs.store.Store.adopt.Goals as goal

pub write_history-requires-clause-fits : goal.write_history-requires-clause-fits
write_history-requires-clause-fits g c =
    let s = c.self.inside in
    let following = subst (λ (h : Holding). is_following h.stored ≡ true) (sym c.self.view_is) c.requires.following in
    let is = subst (λ (h : Holding). judged (history_of h.stored) c.args.history (end_of h.stored.log) ≡ Ok Adopt) (sym c.self.view_is) c.requires.judged in
    adopt_fits s.pages s.count s.log s.control s.pool.pool s.validator s.broken s.origin s.recovering c.self.invariant c.end.ensures.facts c.newest.ensures.facts c.args.history following c.epoch.ensures.facts
    (λ low lsns. c.adopted_seals_stay_lsns.ensures (newest s.control).history c.args.history (end_of s.log.log) c.epoch.ensures.facts lsns low is)

pub write_history-requires-clause-grows : goal.write_history-requires-clause-grows
write_history-requires-clause-grows g c =
    let s = c.self.inside in
    let is = subst (λ (h : Holding). judged (history_of h.stored) c.args.history (end_of h.stored.log) ≡ Ok Adopt) (sym c.self.view_is) c.requires.judged in
    adopt_continues s.pages s.count s.log s.control s.pool.pool s.validator s.broken s.origin s.recovering c.self.invariant c.end.ensures.facts c.newest.ensures.facts c.args.history
    (c.judgement_in_words.ensures (newest s.control).history c.args.history (end_of s.log.log)) is

pub invariant_of-self : goal.invariant_of-self
invariant_of-self g c =
    let s = c.self.inside in
    let is = subst (λ (h : Holding). judged (history_of h.stored) c.args.history (end_of h.stored.log) ≡ Ok Adopt) (sym c.self.view_is) c.requires.judged in
    let grows = adopted_grows (newest s.control).history c.args.history (end_of s.log.log) (c.judgement_in_words.ensures (newest s.control).history c.args.history (end_of s.log.log)) is in
    stored-adopted s.pages s.count s.log s.control s.pool.pool s.validator s.broken s.origin s.recovering c.self.invariant c.end.ensures.facts c.newest.ensures.facts c.write_history.new.self c.args.history grows c.in-Ok.ensures.ok

pub invariant_of-self-in-Err : goal.invariant_of-self-in-Err
invariant_of-self-in-Err g c =
    let s = c.self.inside in
    let is = subst (λ (h : Holding). judged (history_of h.stored) c.args.history (end_of h.stored.log) ≡ Ok Adopt) (sym c.self.view_is) c.requires.judged in
    let grows = adopted_grows (newest s.control).history c.args.history (end_of s.log.log) (c.judgement_in_words.ensures (newest s.control).history c.args.history (end_of s.log.log)) is in
    stored-adopt_torn s.pages s.count s.log s.control s.pool.pool s.validator s.broken s.origin s.recovering c.self.invariant c.end.ensures.facts c.newest.ensures.facts c.write_history.new.self c.args.history grows c.in-Err.ensures.err
