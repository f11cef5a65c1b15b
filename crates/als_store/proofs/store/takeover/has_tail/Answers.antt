use Rattle.std.proofs.Common.{◌∙◌}
use Rattle.als_store.proofs.SealLaws.{rows_left}
use Rattle.als_store.proofs.store.takeover.has_tail.Goals as goal

pub returns : goal.returns
returns c pages log judged = c.has_other.ensures ∙ rows_left log c.rows.result.now (c.rows.ensures.rows pages log judged)
