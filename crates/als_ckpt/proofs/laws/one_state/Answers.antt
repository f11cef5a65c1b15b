use Rattle.als_ckpt.proofs.BlockLaws.{Spells-one_state}
use Rattle.als_ckpt.proofs.laws.one_state.Goals as goal

pub returns : goal.returns
returns c = Spells-one_state
