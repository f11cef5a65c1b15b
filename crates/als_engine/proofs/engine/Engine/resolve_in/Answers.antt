use Rattle.std.proofs.Common.{◌≡◌, ◌++◌, [], ◌∷◌, refl, sym, ap, subst, ◌∙◌}
use Rattle.std.specs.Option.{option_to_list}
use Rattle.als_record.specs.Commits.{commits_of}
use Rattle.als_record.specs.Tail.{decision}
use Rattle.als_store.specs.Stored.{Stored}
use Rattle.als_store.specs.Takeover.{decision_body}
use Rattle.als_engine.proofs.ReaderLaws.{serving_not_collected, serving_roomy, seen_resolved}
use Rattle.als_engine.proofs.ReadyLaws.{ready_resolved}
use Rattle.als_engine.proofs.engine.Engine.resolve_in.Goals as goal

pub invariant_of-self : goal.invariant_of-self
invariant_of-self g c =
    let s = c.self.inside in
    serving_not_collected s.store.stored c.decided.new.held.stored s.receiver s.refused s.shown
    c.in_err-found.field-0.0 c.self.invariant c.in_err-found.ensures.err

pub invariant_of-self-2 : goal.invariant_of-self-2
invariant_of-self-2 g c =
    let s = c.self.inside in
    let held = c.decided.new.held.stored in
    let same = c.in_ok-found.ensures.same in
    let mid = c.reserve_place.new.shown in
    let t = c.args.trans.0 in
    let b = decision_body c.args.verdict in
    let found = c.in_ok-found.found in
    let before = serving_roomy s.store.stored held s.receiver s.refused s.shown mid c.self.invariant
    same c.reserve_place.ensures.same in
    let commits : commits_of (held.log ++ decision held.log t b ∷ [])
    ≡ commits_of held.log ++ option_to_list found =
    subst (λ (h : Stored). commits_of (h.log ++ decision h.log t b ∷ [])
    ≡ commits_of h.log ++ option_to_list found) (sym same) c.in_ok-found.ensures.ok in
    record {
      ready = ready_resolved held c.resolve.new.self.stored s.receiver c.new.result s.refused t
          c.args.verdict c.in_ok-lsn.lsn c.end.result.0 c.pages.result before.ready
          c.in_ok-lsn.ensures.ok c.new.ensures c.end.ensures.end c.pages.ensures;
      seen = seen_resolved held c.resolve.new.self.stored mid mid c.take.new.self t c.args.verdict
          c.in_ok-lsn.lsn before.seen c.in_ok-lsn.ensures.ok
          (ap (λ (h : Stored). h.recovering) same ∙ sym c.is_recovering.ensures
          ∙ c.if-is_recovering.false)
          refl
          (λ offset h. c.take.ensures.shows held.log (decision held.log t b) offset commits h)
          c.take.ensures.published c.take.ensures.same;
    }
