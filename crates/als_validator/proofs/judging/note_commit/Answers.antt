use Rattle.als_record.specs.Shown.{shown}
use Rattle.als_validator.proofs.StateSteps.{committed-push, committed-keep}
use Rattle.als_validator.proofs.Views.{shows_commit, shows_no_commit}
use Rattle.als_validator.proofs.judging.note_commit.Goals as goal

pub returns-in-Commit : goal.returns-in-Commit
returns-in-Commit c log are = rw c.push_reserved.ensures.items (committed-push c.args.committed.now.items log (shown c.args.logged.now) are (shows_commit c.args.logged.now.body c.in-Commit.is))

pub returns-in_default : goal.returns-in_default
returns-in_default c log are = committed-keep c.args.committed.now.items log (shown c.args.logged.now) are (shows_no_commit c.args.logged.now.body c.in_default.not-Commit)
