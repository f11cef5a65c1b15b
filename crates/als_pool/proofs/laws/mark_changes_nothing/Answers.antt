use Rattle.als_pool.proofs.Keeping.{keeps_mark_raised}
use Rattle.als_pool.proofs.laws.mark_changes_nothing.Goals as goal

pub returns : goal.returns
returns c log below more pool le h = keeps_mark_raised log below pool more le h
