use Rattle.als_pool.proofs.Refusing.{not_lent, spent, nothing_waits, fullness, nothing_due}
use Rattle.als_pool.proofs.laws.refusals_compute.Goals as goal

pub returns-clause-lent : goal.returns-clause-lent
returns-clause-lent c pool page = not_lent pool page

pub returns-clause-spent : goal.returns-clause-spent
returns-clause-spent c pool = spent pool

pub returns-clause-waiting : goal.returns-clause-waiting
returns-clause-waiting c pool page = nothing_waits pool page

pub returns-clause-full : goal.returns-clause-full
returns-clause-full c pool page = fullness pool page

pub returns-clause-due : goal.returns-clause-due
returns-clause-due c pool page = nothing_due pool page
