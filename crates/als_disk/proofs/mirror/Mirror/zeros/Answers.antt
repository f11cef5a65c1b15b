use Rattle.std.proofs.Common.{◌∙◌, sym, subst, ap}
use Rattle.als_disk.specs.declared.trail.Trail.{Trail}
use Rattle.als_disk.specs.Slot.{HoldsBlocks}
use Rattle.als_disk.specs.Pieces.{HoldNewest}
use Rattle.als_disk.specs.Trail.{slot_in}
use Rattle.als_disk.proofs.MirrorLaws.{contents-empty, slot-start}
use Rattle.als_disk.proofs.mirror.Mirror.zeros.Goals as goal

pub invariant_of-result : goal.invariant_of-result
invariant_of-result c = record {
  enough = c.in_ok-empty_pieces.ensures.enough;
  newest = subst (λ (t : Trail). HoldNewest 0 c.in_ok-empty_pieces.field-0.items t) (sym c.of.ensures) c.in_ok-empty_pieces.ensures.zeros;
  contents = subst (λ (t : Trail). HoldsBlocks (slot_in t)) (sym c.of.ensures) contents-empty;
}

pub returns-clause-zeros : goal.returns-clause-zeros
returns-clause-zeros c = λ k. ap (λ (t : Trail). slot_in t k) c.of.ensures ∙ slot-start k
