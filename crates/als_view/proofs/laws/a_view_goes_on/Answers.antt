use Rattle.als_view.proofs.ShowingLaws.{starts, waits_first, shows_rises, shows_other}
use Rattle.als_view.proofs.laws.a_view_goes_on.Goals as goal

pub returns-clause-start : goal.returns-clause-start
returns-clause-start c = starts

pub returns-clause-waits : goal.returns-clause-waits
returns-clause-waits c = waits_first

pub returns-clause-rises : goal.returns-clause-rises
returns-clause-rises c = shows_rises

pub returns-clause-other : goal.returns-clause-other
returns-clause-other c = shows_other
