use Rattle.std.proofs.Common.{inl, inr}
use Rattle.als_reopen.proofs.Rebuilt.{HoldsLog-said, HoldsLog-unchecked}
use Rattle.als_reopen.proofs.rebuilding.a_log_forgets_its_checkpoint_or_not.Goals as goal

pub returns : goal.returns
returns c pages blocks log old tried left n h taken leaves keeps =
    elim (leaves left keeps) [
      | inl before ↦ inl (HoldsLog-said pages blocks log old left n h before, taken)
      | inr after ↦ inr (HoldsLog-unchecked pages blocks log old left n h after, taken)
    ]
