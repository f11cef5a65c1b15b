use Rattle.std.proofs.Common.{◌∙◌, Option, None, ap, arith, slice_set, List}
use Rattle.als_lease.specs.Lease.{Leased}
use Rattle.als_world.proofs.SlotLaws.{filled-more}
use Rattle.als_world.proofs.slots.Slots.clear.Goals as goal

pub loop-slot-preserved : goal.loop-slot-preserved
loop-slot-preserved c = record {
  within = omega (arith, c.loop-slot-test.true, c.len-slot-end.ensures);
  items = ap (λ (l : List (Option Leased)). slice_set l c.loop-slot.slot None) c.loop-slot.invariant.items
      ∙ filled-more c.loop-slot.slot None c.self.inside.leases.items (omega (arith, c.loop-slot-test.true, c.len-slot-end.ensures));
}
