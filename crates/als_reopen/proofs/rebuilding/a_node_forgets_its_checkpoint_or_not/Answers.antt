use Rattle.std.proofs.Common.{inl, inr}
use Rattle.als_reopen.proofs.Restated.{IsNode-said}
use Rattle.als_reopen.proofs.Rebuilt.{IsNode-unchecked}
use Rattle.als_reopen.proofs.rebuilding.a_node_forgets_its_checkpoint_or_not.Goals as goal

pub returns : goal.returns
returns c pages blocks log old tried images left n h leaves keeps =
    elim (leaves left keeps) [
      | inl before ↦ inl (IsNode-said pages blocks log old left images n h before)
      | inr after ↦ inr (IsNode-unchecked pages blocks log old left images n h after)
    ]
