use Rattle.als_followers.proofs.Serving.{session_none}
use Rattle.als_followers.proofs.node_log.NodeSource.send.Goals as goal

pub returns-in_err-log-clause-session : goal.returns-in_err-log-clause-session
returns-in_err-log-clause-session g c =
    session_none c.args.window c.args.self.now.header.pages c.args.self.now.history (g.I.Read.remaining c.args.reader.now) (g.M.Marks.heard c.args.marks.now) (g.M.Marks.begun c.args.marks.now) (g.W.Write.contents c.args.writer.now)
