use Rattle.std.proofs.Common.{◌==◌, not, ◌&&◌, ap, ◌∙◌}
use Rattle.als_record.specs.Shown.{shown}
use Rattle.als_record.specs.Transactions.{is_transactional}
use Rattle.als_record.specs.Validity.{bad_prev}
use Rattle.als_validator.proofs.StateSteps.{last_in-row}
use Rattle.als_validator.proofs.causes.is_bad_prev.Goals as goal

pub returns : goal.returns
unfolding bad_prev
returns c log p =
    let r = shown c.args.logged.now in
    c.is_off_chain.ensures ∙ ap (λ n. is_transactional r.body && not (r.prev.0 == n)) (last_in-row log r.trans.0 c.args.past.now.row p.row)
