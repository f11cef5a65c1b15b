use Rattle.als_pool.proofs.Opened.{opened_covers}
use Rattle.als_pool.proofs.laws.opened_pages_are_covered.Goals as goal

pub returns : goal.returns
returns c log below position rows pool h given = opened_covers log below position rows pool h given
