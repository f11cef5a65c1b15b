use Rattle.als_frames.specs.Leases.{lent_frame}
use Rattle.als_frames.proofs.TableLists.{sets_changed, no_frame}
use Rattle.als_frames.proofs.table.lend_at.Goals as goal

pub returns-in-Some-clause-sets : goal.returns-in-Some-clause-sets
returns-in-Some-clause-sets c = sets_changed c.args.frames.now c.args.i c.in-Some.frame.now c.lend.new.self (lent_frame c.args.lent) c.in-Some.ensures.unique c.in-Some.ensures.value c.lend.ensures

pub returns-in-None-clause-sets : goal.returns-in-None-clause-sets
returns-in-None-clause-sets c = λ page f at. absurd (no_frame c.args.frames.now c.args.i page f c.in-None.ensures.value at)
