use Rattle.std.proofs.Common.{inl, inr}
use Rattle.als_reopen.proofs.Restated.{IsNode-said, IsNode-following}
use Rattle.als_reopen.proofs.again.a_primary_follows_again_or_not.Goals as goal

pub returns : goal.returns
returns c pages blocks log old tried images left n primary h leaves keeps =
    elim (leaves left keeps) [
      | inl before ↦ inl (IsNode-said pages blocks log old left images n h before)
      | inr after ↦ inr (IsNode-following pages blocks log old left images n h after)
    ]
