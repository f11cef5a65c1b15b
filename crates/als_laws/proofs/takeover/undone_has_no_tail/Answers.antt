use Rattle.als_record.proofs.TailFirst.{tail_of-undone, is_undone-tail_of}
use Rattle.als_laws.proofs.takeover.undone_has_no_tail.Goals as goal

pub returns : goal.returns
returns c log = (tail_of-undone log, is_undone-tail_of log)
