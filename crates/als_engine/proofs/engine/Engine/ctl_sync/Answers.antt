use Rattle.als_engine.proofs.KeepLaws.{keeps_then}
use Rattle.als_engine.proofs.StepLaws.{keeps_ctl_sync}
use Rattle.als_engine.proofs.engine.Engine.ctl_sync.Goals as goal

pub returns-clause-keeps : goal.returns-clause-keeps
returns-clause-keeps g c =
    keeps_then c.args.self.now.machine c.ctl_sync_in-answer.new.self.machine c.note.new.self.machine
    c.note.ensures.machine
    (keeps_ctl_sync c.args.self.now.machine c.ctl_sync_in-answer.new.self.machine c.ctl_sync_in-answer.result
    (rw (← c.self.view_is) c.self.invariant.ready.marks) c.ctl_sync_in-answer.ensures.goes_on
    (rw (← c.self.view_is) c.history.ensures.grown) c.ctl_sync_in-answer.ensures.syncs)
