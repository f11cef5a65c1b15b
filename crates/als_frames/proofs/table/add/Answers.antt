use Rattle.std.proofs.Common.{nat_eq, ◌∙◌}
use Rattle.indexmap.proofs.CallerLemmas.{insert_entry-new}
use Rattle.als_frames.proofs.table.add.Goals as goal

pub returns-clause-last : goal.returns-clause-last
returns-clause-last c = c.in-Ok.ensures.entries ∙ insert_entry-new nat_eq c.args.frames.now c.args.page c.args.frame c.requires.absent
