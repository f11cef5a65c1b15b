use Rattle.std.proofs.Common.{true, false, refl, ap, arith}
use Rattle.als_record.specs.Shown.{shown, shown_body}
use Rattle.als_record.specs.Transactions.{is_commit}
use Rattle.als_record.specs.declared.record_view.BodyView.{BodyView}
use Rattle.als_tables.proofs.Counts.{counted, other_view}
use Rattle.als_tables.proofs.commit_count.CommitCount.note.Goals as goal

pub returns-in-Commit : goal.returns-in-Commit
returns-in-Commit c log h =
    counted c.args.self.now _ log (shown c.args.logged.now) true (ap (λ (b : BodyView). is_commit (shown_body b)) c.in-Commit.is) refl refl refl h

pub returns-in_default : goal.returns-in_default
returns-in_default c log h =
    counted c.args.self.now _ log (shown c.args.logged.now) false (other_view c.args.logged.now.body c.in_default.not-Commit) refl (omega arith) refl h
