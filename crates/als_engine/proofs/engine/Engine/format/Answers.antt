use Rattle.std.proofs.Common.{sym, ap, ◌∙◌}
use Rattle.als_store.specs.Stored.{Stored}
use Rattle.als_engine.proofs.ReadyLaws.{ready_new, device_of}
use Rattle.als_engine.proofs.ReaderLaws.{seen_new}
use Rattle.als_engine.proofs.engine.Engine.format.Goals as goal

pub invariant_of-engine : goal.invariant_of-engine
invariant_of-engine g c =
    let held = c.in-Ok-format.store.stored in
    let made = c.in-Ok-format.ensures.ok in
    let list = c.in-Ok.ensures.view in
    record {
      ready = ready_new held c.new-in-Ok-format.result _ _ _ _ _ made c.new-in-Ok-format.ensures;
      seen = seen_new held c.in-Ok.shown list.0 list.1 list.3
          (list.2 ∙ sym (ap (λ (s : Stored). s.pages) made)) (ap (λ (s : Stored). s.log) made)
          (ap (λ (s : Stored). s.recovering) made) c.a_view_goes_on.ensures.start;
    }

pub returns-in-Err-clause-left : goal.returns-in-Err-clause-left
returns-in-Err-clause-left g c = λ device.
    c.in-Err.ensures.left (device_of c.in-Err.unformatted.fault (sym c.from.ensures ∙ device))
