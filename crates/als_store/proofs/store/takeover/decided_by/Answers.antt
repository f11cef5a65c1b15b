use Rattle.std.proofs.Common.{ap, ◌∙◌}
use Rattle.als_record.specs.declared.record.Body.{Body}
use Rattle.als_record.specs.Tail.{decision}
use Rattle.als_record.proofs.Unended.{is_in_doubt-unended}
use Rattle.als_store.proofs.DecisionLaws.{decision-is}
use Rattle.als_store.proofs.store.takeover.decided_by.Goals as goal

pub returns : goal.returns
returns c pages log judged doubt at =
    decision-is log c.args.end c.last_of.result c.args.trans c.body_of.result at (c.last_of.ensures pages log judged (is_in_doubt-unended log c.args.trans.0 doubt))
    ∙ ap (λ (b : Body). decision log c.args.trans.0 b) c.body_of.ensures
