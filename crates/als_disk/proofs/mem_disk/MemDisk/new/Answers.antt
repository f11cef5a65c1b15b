use Rattle.std.proofs.Common.{List, ℕ, subst}
use Rattle.als_disk.specs.Slot.{Slot, IsBlock}
use Rattle.std.specs.Prelude.{Contains}
use Rattle.als_disk.specs.SlotLaws.{Contains-one}
use Rattle.als_disk.proofs.Full.{IsBlock-zeros}
use Rattle.als_disk.proofs.Maps.{ContainsKey-empty, slot_of-empty}
use Rattle.als_disk.proofs.mem_disk.MemDisk.new.Goals as goal

pub invariant_of-result : goal.invariant_of-result
invariant_of-result c = record {
  room = λ k has. absurd (ContainsKey-empty c.new.result c.new.ensures.empty k has);
  in_range = λ k has. absurd (ContainsKey-empty c.new.result c.new.ensures.empty k has);
  contents = λ k content has.
      let zeros_only = slot_of-empty c.zeros.result c.new.result c.new.ensures.empty k in
      subst (λ (x : List ℕ). IsBlock x) (Contains-one (subst (λ (s : Slot). Contains s.candidates content) zeros_only has)) (rw c.zeros.ensures IsBlock-zeros);
}
