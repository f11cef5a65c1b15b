use Rattle.std.proofs.Common.{◌≡◌, ℕ, ◌<◌, false, take, slice_index_or}
use Rattle.std.specs.List.{list_any}
use Rattle.als_record.specs.Images.{same_key}
use Rattle.als_record.specs.Commits.{Write}
use Rattle.als_writer.proofs.checking.set_twice.Given as goal

abbrev pub invariant-loop-i : goal.invariant-loop-i
invariant-loop-i l = (j : ℕ) (w : Write) → j < l.i → w ≡ slice_index_or l.sets j w → list_any (λ v. same_key v.key w.key) (take j l.sets) ≡ false
