use Rattle.als_pool.proofs.PoolLaws.{row_is_exact}
use Rattle.als_pool.proofs.laws.each_row_is_exact.Goals as goal

pub returns : goal.returns
returns c log below pool page h inside was_read = row_is_exact log below pool page h inside was_read
