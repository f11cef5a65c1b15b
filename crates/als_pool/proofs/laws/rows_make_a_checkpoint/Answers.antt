use Rattle.als_pool.proofs.StartRows.{rows-listed, rows-cover, none-covers}
use Rattle.als_pool.proofs.laws.rows_make_a_checkpoint.Goals as goal

pub returns-clause-listed : goal.returns-clause-listed
returns-clause-listed c log below pool h = rows-listed log below pool h

pub returns-clause-covers : goal.returns-clause-covers
returns-clause-covers c log below pool h = rows-cover log below pool h

pub returns-clause-none : goal.returns-clause-none
returns-clause-none c log below position pool h le = none-covers log below position pool h le
