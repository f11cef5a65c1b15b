use Rattle.als_reopen.proofs.Restated.{IsNode-following}
use Rattle.als_reopen.proofs.again.a_primary_follows_again.Goals as goal

pub returns : goal.returns
returns c pages blocks log old new images n primary h says = IsNode-following pages blocks log old new images n h says
