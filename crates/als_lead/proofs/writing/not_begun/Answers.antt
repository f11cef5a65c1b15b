use Rattle.als_lead.proofs.Doing.{commit_not_begun, prepare_not_begun, decide_not_begun}
use Rattle.als_lead.proofs.writing.not_begun.Goals as goal

pub returns-in-Decide-clause-not : goal.returns-in-Decide-clause-not
returns-in-Decide-clause-not c = rw c.in-Decide.is (decide_not_begun c.in-Decide.trans c.in-Decide.verdict c.not_decided.result c.not_decided.ensures)

pub returns-in-Commit-clause-not : goal.returns-in-Commit-clause-not
returns-in-Commit-clause-not c = rw c.in-Commit.is (commit_not_begun c.in-Commit.field-0 c.not_written.result c.not_written.ensures)

pub returns-in-Prepare-clause-not : goal.returns-in-Prepare-clause-not
returns-in-Prepare-clause-not c = rw c.in-Prepare.is (prepare_not_begun c.in-Prepare.field-0 c.not_written-in-Prepare.result c.not_written-in-Prepare.ensures)
