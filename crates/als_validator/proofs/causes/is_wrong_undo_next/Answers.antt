use Rattle.std.proofs.Common.{sym, ◌∙◌}
use Rattle.std.specs.Prelude.{option_copied}
use Rattle.als_record.specs.Shown.{shown}
use Rattle.als_validator.proofs.StateSteps.{known_of, newest-known, wrong_undo_next-skips}
use Rattle.als_validator.proofs.causes.is_wrong_undo_next.Goals as goal

pub returns : goal.returns
returns c log p o =
    let r = shown c.args.logged.now in
    c.does_skip.ensures ∙ sym (wrong_undo_next-skips log r (option_copied c.args.past.now.newest) (λ w. newest-known log r.trans.0 (known_of log r w o) (option_copied c.args.past.now.newest) p.newest))
