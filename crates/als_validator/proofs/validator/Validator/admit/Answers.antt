use Rattle.std.proofs.Common.{◌≡◌, ◌≤◌, max, sym, ap, ◌∙◌, arith}
use Rattle.als_record.specs.Shown.{shown}
use Rattle.als_record.specs.Transactions.{greatest_trans}
use Rattle.als_record.specs.Validity.{checkpoint_after, open_checkpoint}
use Rattle.als_record.proofs.Places.{open_checkpoint-push}
use Rattle.als_record.proofs.Records.{has_begun-unended}
use Rattle.als_record.proofs.Unended.{greatest_trans-push}
use Rattle.als_analysis.specs.Noted.{StandsAt}
use Rattle.als_analysis.proofs.LogSteps.{begun-le-greatest}
use Rattle.als_validator.proofs.Bounds.{Follows, follows}
use Rattle.als_validator.proofs.Views.{shows_update}
use Rattle.als_validator.proofs.validator.Validator.admit.Goals as goal

pub returns-in-Some-clause-kept : goal.returns-in-Some-clause-kept
returns-in-Some-clause-kept c pages log v valid =
    let r = shown c.args.logged.now in
    let f : Follows pages log r = follows pages log r valid in
    let s : StandsAt log r.trans.0 c.in-Some.at = c.in-Some.ensures.stands log v.table in
    let is = shows_update c.args.logged.now.body c.in-Update.key c.in-Update.before c.in-Update.after c.in-Update.is in
    let begun : r.trans.0 ≤ greatest_trans log = begun-le-greatest log r.trans.0 (has_begun-unended log r.trans.0 s.is_open) in
    let greatest : greatest_trans log ≡ max (greatest_trans log) r.trans.0 = omega arith in
    record {
      table = c.note_update-in-Some.ensures log v.table f.may s;
      judging = c.note_update.ensures.kept pages log v.judging valid s;
      greatest = v.greatest ∙ greatest ∙ sym (greatest_trans-push log r);
      begun = v.begun ∙ sym (open_checkpoint-push log r ∙ ap (checkpoint_after (open_checkpoint log) r.lsn.0) is);
    }
