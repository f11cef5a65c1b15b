use Rattle.als_view.proofs.Turns.{enters}
use Rattle.als_view.proofs.inside.Inside.enter.Goals as goal

pub enter_as-requires : goal.enter_as-requires
enter_as-requires c x = enters _ _ x
