use Rattle.als_engine.proofs.DoubtLaws.{rolled_back-commits}
use Rattle.als_engine.proofs.engine.resolving.decided.Goals as goal

pub returns-in-Rollback-clause-ok : goal.returns-in-Rollback-clause-ok
returns-in-Rollback-clause-ok g c =
    rw c.in-Rollback.is
    (rolled_back-commits c.args.held.now.stored.log c.args.trans.0 c.end.ensures.log.valid
    c.requires.doubt)
