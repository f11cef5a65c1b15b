use Rattle.std.proofs.Common.{inl, inr}
use Rattle.als_reopen.proofs.Restated.{IsNode-said, IsNode-forgetting}
use Rattle.als_reopen.proofs.again.a_node_forgets_or_not.Goals as goal

pub returns : goal.returns
returns c pages blocks log old tried images left n which h leaves keeps =
    elim (leaves left keeps) [
      | inl before ↦ inl (IsNode-said pages blocks log old left images n h before)
      | inr after ↦ inr (IsNode-forgetting pages blocks log old left images n h which after)
    ]
