use Rattle.als_writing.proofs.LastWrites.{last_write-transaction}
use Rattle.als_writing.proofs.unchanged.transaction_is_the_last_write.Goals as goal

pub returns : goal.returns
returns c pages log t writes l m k = last_write-transaction pages log t writes l.valid m k
