use Rattle.als_frames.specs.Leases.{recalled_frame}
use Rattle.als_frames.proofs.TableLists.{sets_changed, no_frame}
use Rattle.als_frames.proofs.table.recall_at.Goals as goal

pub returns-in-Some-clause-sets : goal.returns-in-Some-clause-sets
returns-in-Some-clause-sets c = sets_changed c.args.frames.now c.args.i c.in-Some.frame.now c.recall.new.self recalled_frame c.in-Some.ensures.unique c.in-Some.ensures.value c.recall.ensures

pub returns-in-None-clause-sets : goal.returns-in-None-clause-sets
returns-in-None-clause-sets c = λ page f at. absurd (no_frame c.args.frames.now c.args.i page f c.in-None.ensures.value at)
