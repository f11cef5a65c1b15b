use Rattle.std.proofs.Common.{ap, arith, ◌∙◌}
use Rattle.als_disk.specs.Mirror.{mirror_newest}
use Rattle.als_disk.specs.Slot.{only}
use Rattle.als_disk.specs.Store.{zeros}
use Rattle.als_disk.specs.Trail.{newest_of_only}
use Rattle.als_disk.proofs.reading.mirror_of.Goals as goal

pub returns-clause-settled : goal.returns-clause-settled
returns-clause-settled g c = λ k. (mirror_newest c.loop-first.mirror k, c.settle.ensures.settled k)

pub returns-clause-above : goal.returns-clause-above
returns-clause-above g c = λ k past.
    let zero = newest_of_only c.loop-first.mirror.trail.value k zeros (c.loop-first.invariant.above k (omega arith)) in
    c.settle.ensures.settled k ∙ ap only zero
