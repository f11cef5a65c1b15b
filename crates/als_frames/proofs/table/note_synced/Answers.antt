use Rattle.std.proofs.Common.{◌∙◌}
use Rattle.als_frames.proofs.ZoneSteps.{all_synced}
use Rattle.als_frames.proofs.table.note_synced.Goals as goal

pub returns-clause-frames : goal.returns-clause-frames
returns-clause-frames c = λ page.
    all_synced c.loop-zones.zones c.loop-zones.frames.entries c.loop-zones.invariant.zoned c.loop-zones-test.false page ∙ c.loop-zones.invariant.frames page
