-- Nodes of which another control state was written while they were stopped.
use Rattle.std.proofs.Common.{◌≡◌, ℕ, ◌*◌, refl, sym, ap, subst, ◌∙◌, inl, inr}
use Rattle.std.specs.Prelude.{◌⊎◌}
use Rattle.als_disk.specs.Slot.{Slot, KeepsCandidate}
use Rattle.als_ckpt.specs.declared.phase.Phase.TheVariants.{Following, Primary}
use Rattle.als_ckpt.specs.declared.unreached.Unreached.{Unreached}
use Rattle.als_ckpt.specs.Holding.{HoldsControl}
use Rattle.als_ckpt.specs.Again.{forgetting, following_again, saying, LeavesEither}
use Rattle.als_reopen.specs.Node.{Node, HoldsLog, IsNode}
use Rattle.als_reopen.specs.Again.{restated}

module _ (pages blocks : ℕ) (log old new images : ℕ → Slot) (n : Node) (h : IsNode pages blocks log old images n) where
  -- the control device says the same
  pub IsNode-said : HoldsControl pages (512 * blocks) new n.said → IsNode pages blocks log new images n
  IsNode-said says = record {
    held = record { count = h.held.count; control = says; text = h.held.text; ends = h.held.ends; valid = h.held.valid; fits = h.held.fits; front = h.held.front };
    taken = h.taken;
    images = h.images;
  }

  -- it says the state without the seals that the log has not reached
  pub IsNode-forgetting : (which : Unreached) → HoldsControl pages (512 * blocks) new (saying n.said (forgetting which n.said.state))
      → IsNode pages blocks log new images (restated n (forgetting which n.said.state))
  IsNode-forgetting which says = record {
    held = record { count = h.held.count; control = says; text = h.held.text; ends = h.held.ends; valid = h.held.valid; fits = h.held.fits; front = h.held.front };
    taken = h.taken;
    images = h.images;
  }

  -- it says that the log follows a source
  pub IsNode-following : HoldsControl pages (512 * blocks) new (saying n.said (following_again n.said.state))
      → IsNode pages blocks log new images (restated n (following_again n.said.state))
  IsNode-following says = record {
    held = record { count = h.held.count; control = says; text = h.held.text; ends = h.held.ends; valid = h.held.valid; fits = h.held.fits; front = h.held.front };
    taken = tt;
    images = h.images;
  }
