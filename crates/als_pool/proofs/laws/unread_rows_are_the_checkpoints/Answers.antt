use Rattle.als_pool.proofs.Restarting.{row_start, row_of_restart}
use Rattle.als_pool.proofs.laws.unread_rows_are_the_checkpoints.Goals as goal

pub returns-clause-start : goal.returns-clause-start
returns-clause-start c position rows pool page from h inside is = row_start position rows pool page from h inside is

pub returns-clause-row : goal.returns-clause-row
returns-clause-row c log below position rows pool page from of h inside is = row_of_restart position rows log below pool page from of h inside is
