use Rattle.als_frames.proofs.Keeping.{OnOk-so, keeps_sync}
use Rattle.als_frames.proofs.frames.Frames.sync.Goals as goal

pub returns-clause-keeps : goal.returns-clause-keeps
returns-clause-keeps g c =
    OnOk-so c.sync_all.result c.sync_all.ensures.ok (λ done log synced below sure h. keeps_sync log synced below c.args.self.now.paged c.sync_all.new.self.paged sure done h)
