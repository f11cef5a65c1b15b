use Rattle.als_follow.proofs.Following.{told_same}
use Rattle.als_follow.proofs.coordinator.coordinate.Goals as goal

pub returns-then-is_err-clause-vouched : goal.returns-then-is_err-clause-vouched
returns-then-is_err-clause-vouched g c =
    told_same g.O.Write.contents c.not_begun.result.session.acknowledger c.args.writer c.not_begun.result.session.writer c.not_begun.ensures.writer

pub returns-then-is_err-2-clause-vouched : goal.returns-then-is_err-2-clause-vouched
returns-then-is_err-2-clause-vouched g c =
    told_same g.O.Write.contents c.not_begun-then-is_err-2.result.session.acknowledger c.args.writer c.not_begun-then-is_err-2.result.session.writer c.not_begun-then-is_err-2.ensures.writer
