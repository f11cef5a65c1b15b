use Rattle.std.proofs.Common.{not, ap, ◌∙◌}
use Rattle.als_record.specs.Shown.{shown}
use Rattle.als_record.specs.Validity.{bad_checkpoint, fits_checkpoints}
use Rattle.als_validator.proofs.causes.is_bad_checkpoint.Goals as goal

pub returns : goal.returns
unfolding bad_checkpoint
returns c log b = ap not (c.does_fit.ensures ∙ ap (λ n. fits_checkpoints n (shown c.args.logged.now) (shown c.args.logged.now).body) b)
