use Rattle.std.proofs.Common.{None}
use Rattle.als_follow.proofs.Following.{followed_not}
use Rattle.als_follow.proofs.coordinator.start_follower.Goals as goal

pub returns : goal.returns
returns g c =
    followed_not g.I.Read.remaining g.O.Write.contents c.args.session.acknowledger None c.args.session.reader c.args.session.writer
