use Rattle.als_record.proofs.Chain.{undo_chain-is}
use Rattle.als_laws.proofs.valid_logs.undo_chain_meets_survivors.Goals as goal

pub returns : goal.returns
returns c log t v = undo_chain-is log t v
