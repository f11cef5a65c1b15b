use Rattle.als_tables.proofs.Rows.{few_rows, rows_rise}
use Rattle.als_tables.proofs.copies.fits_checkpoint.Goals as goal

pub returns-clause-few : goal.returns-clause-few
returns-clause-few c log v = few_rows log v

pub returns-clause-rising : goal.returns-clause-rising
returns-clause-rising c log v = rows_rise log v
