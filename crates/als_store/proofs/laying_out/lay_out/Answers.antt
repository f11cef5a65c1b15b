use Rattle.std.proofs.Common.{◌≡◌, sym, subst, inl, inr}
use Rattle.std.specs.Prelude.{Contains}
use Rattle.als_disk.specs.Slot.{Slot}
use Rattle.als_disk.specs.SlotLaws.{Contains-one}
use Rattle.als_disk.specs.Store.{zeros}
use Rattle.als_store.proofs.laying_out.lay_out.Goals as goal

pub returns-in-Err-create-clause-left : goal.returns-in-Err-create-clause-left
returns-in-Err-create-clause-left g c =
    inr (λ content has. elim (c.in-Err-create.ensures.err_candidates content has) [
      | inl old ↦ let same : zeros ≡ content =
          Contains-one (subst (λ (slot : Slot). Contains slot.candidates content) c.in-Ok.ensures.ok
          old) in inl (sym same)
      | inr new ↦ inr (inl (sym new))
    ])
