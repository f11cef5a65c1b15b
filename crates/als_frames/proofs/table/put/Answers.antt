use Rattle.std.proofs.Common.{ℕ, List, sym, subst}
use Rattle.als_frames.specs.Frames.{Framed}
use Rattle.als_frames.specs.Zones.{AreZoned}
use Rattle.als_frames.proofs.TableLists.{zoned_added}
use Rattle.als_frames.proofs.table.put.Goals as goal

pub returns-in-None-clause-zoned : goal.returns-in-None-clause-zoned
returns-in-None-clause-zoned c =
    subst (λ (es : List (ℕ × Framed)). AreZoned c.args.zones es) (sym c.add.ensures.last)
    (zoned_added c.args.zones c.args.page c.args.frame c.requires.fresh c.args.frames.now.entries c.requires.zoned)
