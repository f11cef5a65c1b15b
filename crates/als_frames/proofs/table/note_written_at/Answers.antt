use Rattle.als_frames.specs.Table.{written_frame}
use Rattle.als_frames.proofs.TableLists.{sets_changed, no_frame}
use Rattle.als_frames.proofs.table.note_written_at.Goals as goal

pub returns-in-Some-clause-sets : goal.returns-in-Some-clause-sets
returns-in-Some-clause-sets c = sets_changed c.args.frames.now c.args.i c.in-Some.frame.now c.note_written.new.self written_frame c.in-Some.ensures.unique c.in-Some.ensures.value c.note_written.ensures

pub returns-in-None-clause-sets : goal.returns-in-None-clause-sets
returns-in-None-clause-sets c = λ page f at. absurd (no_frame c.args.frames.now c.args.i page f c.in-None.ensures.value at)
