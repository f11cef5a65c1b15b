use Rattle.als_pool.proofs.PoolLaws.{row_is_sound}
use Rattle.als_pool.proofs.laws.each_row_is_sound.Goals as goal

pub returns : goal.returns
returns c log below pool page content h inside has = row_is_sound log below pool page content h inside has
