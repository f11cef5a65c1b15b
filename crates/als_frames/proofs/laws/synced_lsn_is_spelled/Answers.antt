use Rattle.als_frames.proofs.Keeping.{synced_is}
use Rattle.als_frames.proofs.laws.synced_lsn_is_spelled.Goals as goal

pub returns : goal.returns
returns c log synced below pages page lt h = synced_is log synced below pages page lt h
