use Rattle.std.proofs.Common.{◌≡◌, false, take}
use Rattle.std.specs.List.{list_any}
use Rattle.als_record.specs.Images.{same_key}
use Rattle.als_writer.proofs.checking.is_set.Given as goal

abbrev pub invariant-loop-set : goal.invariant-loop-set
invariant-loop-set l = list_any (λ w. same_key w.key l.key) (take l.set-index l.sets) ≡ false
