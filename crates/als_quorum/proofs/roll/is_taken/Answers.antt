use Rattle.std.proofs.Common.{◌∙◌, Some, None, rules}
use Rattle.std.proofs.lemmas.List.{get_or_default}
use Rattle.als_quorum.proofs.roll.is_taken.Goals as goal

-- a row with the id would have been found
pub returns : goal.returns
returns c = (λ no. (cc), λ w. absurd (c.loop-row.invariant w.1.0 (search rules) w.0 (get_or_default c.args.rows.now w.1.0 None (Some w.0) w.1.1 ∙ w.1.2) w.2))
