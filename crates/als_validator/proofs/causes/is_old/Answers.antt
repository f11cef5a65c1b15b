use Rattle.std.proofs.Common.{nat_le, not, ◌&&◌, ap, ◌∙◌}
use Rattle.als_record.specs.Shown.{shown}
use Rattle.als_record.specs.Transactions.{is_transactional, is_unended}
use Rattle.als_record.specs.Validity.{old_transaction}
use Rattle.als_validator.proofs.StateSteps.{is_none-row}
use Rattle.als_validator.proofs.causes.is_old.Goals as goal

pub returns : goal.returns
unfolding old_transaction
returns c log p g =
    let r = shown c.args.logged.now in
    c.is_below.ensures ∙ ap (λ b. is_transactional r.body && b && nat_le r.trans.0 c.args.greatest.0) (is_none-row log r.trans.0 c.args.past.now.row p.row) ∙ ap (λ n. is_transactional r.body && not (is_unended log r.trans.0) && nat_le r.trans.0 n) g
