use Rattle.std.proofs.Common.{max, sym, ap, ◌∙◌}
use Rattle.als_record.specs.Shown.{shown}
use Rattle.als_record.specs.Validity.{checkpoint_after}
use Rattle.als_record.proofs.Places.{open_checkpoint-push}
use Rattle.als_record.proofs.Unended.{greatest_trans-push}
use Rattle.als_validator.proofs.Bounds.{Follows, follows}
use Rattle.als_validator.proofs.validator.Validator.take.Goals as goal

pub returns-clause-kept : goal.returns-clause-kept
returns-clause-kept c pages log v valid =
    let r = shown c.args.logged.now in
    let f : Follows pages log r = follows pages log r valid in
    record {
      table = c.note.ensures.noted log v.table f.may;
      judging = c.note_judged.ensures.kept pages log v.judging valid (c.place.ensures.stands log v.table);
      greatest = c.next_greatest-self.ensures ∙ ap (λ n. max n r.trans.0) v.greatest ∙ sym (greatest_trans-push log r);
      begun = c.next_begun-self.ensures ∙ ap (λ n. checkpoint_after n r.lsn.0 r.body) v.begun ∙ sym (open_checkpoint-push log r);
    }
