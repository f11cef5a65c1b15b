use Rattle.als_share.proofs.Undone.{run-holds, run-undoes, run-decides, run-goes_on}
use Rattle.als_share.proofs.laws.undo_answers_once_a_record.Goals as goal

pub returns-clause-grows : goal.returns-clause-grows
returns-clause-grows c = run-holds

pub returns-clause-whole : goal.returns-clause-whole
returns-clause-whole c = run-undoes

pub returns-clause-first : goal.returns-clause-first
returns-clause-first c = run-decides

pub returns-clause-decided : goal.returns-clause-decided
returns-clause-decided c = run-goes_on
