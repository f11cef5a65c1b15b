use Rattle.std.proofs.Common.{◌≡◌, List, ap, ◌∙◌}
use Rattle.als_record.specs.Commits.{Commit, Write}
use Rattle.als_lookback.specs.Doubts.{Doubt}
use Rattle.als_lookback.proofs.DoubtLaws.{survivors-written}
use Rattle.als_lookback.proofs.doubt.doubt_of.Goals as goal

pub returns : goal.returns
returns c pages log known unended =
    let t = c.args.trans.0 in
    ap (λ (k : Commit). let d : Doubt = record { trans = k.trans.0; writes = k.writes } in d) c.in_ok-commit.ensures.ok
    ∙ ap (λ (ws : List Write). let d : Doubt = record { trans = t; writes = ws } in d) (survivors-written log t c.survivors_of-survivors.result.now unended (c.survivors_of-survivors.ensures pages log known))
