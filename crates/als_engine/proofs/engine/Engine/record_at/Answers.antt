use Rattle.als_engine.proofs.PageLaws.{reads_keeps}
use Rattle.als_engine.proofs.engine.Engine.record_at.Goals as goal

pub returns-clause-keeps : goal.returns-clause-keeps
returns-clause-keeps g c =
    reads_keeps c.args.self.now.machine c.record_at_in.new.self.machine c.args.lsn
    c.record_at_in.result c.record_at_in.ensures.reads
