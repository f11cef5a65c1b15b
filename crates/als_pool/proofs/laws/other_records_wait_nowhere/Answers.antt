use Rattle.als_pool.proofs.Reading.{reads-other, reads-below}
use Rattle.als_pool.proofs.laws.other_records_wait_nowhere.Goals as goal

pub returns-clause-none : goal.returns-clause-none
returns-clause-none c front r pool at none h = reads-other front r at pool none h

pub returns-clause-before : goal.returns-clause-before
returns-clause-before c front r change pool at is low h = reads-below front r at pool change is low h
