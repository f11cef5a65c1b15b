use Rattle.als_record.proofs.Takeover.{tail_of-takes_over}
use Rattle.als_laws.proofs.takeover.tail_takes_over.Goals as goal

pub returns-clause-valid : goal.returns-clause-valid
returns-clause-valid c log v = (tail_of-takes_over log v).valid

pub returns-clause-ended : goal.returns-clause-ended
returns-clause-ended c log v = (tail_of-takes_over log v).ended

pub returns-clause-images : goal.returns-clause-images
returns-clause-images c log v k = (tail_of-takes_over log v).images k
