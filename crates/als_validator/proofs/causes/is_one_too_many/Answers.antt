use Rattle.std.proofs.Common.{nat_le, not, ◌&&◌, sym, ap, ◌∙◌}
use Rattle.als_record.specs.Shown.{shown}
use Rattle.als_record.specs.Transactions.{is_transactional, is_end, is_unended}
use Rattle.als_validator.proofs.StateSteps.{is_none-row, too_many-begins}
use Rattle.als_validator.proofs.causes.is_one_too_many.Goals as goal

pub returns : goal.returns
returns c log p n v o =
    let r = shown c.args.logged.now in
    c.does_overflow.ensures
    ∙ ap (λ b. is_transactional r.body && not (is_end r.body) && b && nat_le 256 c.args.count) (is_none-row log r.trans.0 c.args.past.now.row p.row)
    ∙ ap (λ n. is_transactional r.body && not (is_end r.body) && not (is_unended log r.trans.0) && nat_le 256 n) n
    ∙ sym (too_many-begins log r v o)
