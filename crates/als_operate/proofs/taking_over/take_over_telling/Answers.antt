use Rattle.als_operate.proofs.Takeovers.{taken_over}
use Rattle.als_operate.proofs.taking_over.take_over_telling.Goals as goal

pub returns-clause-taken : goal.returns-clause-taken
returns-clause-taken g c = λ alone.
    taken_over (g.E.Events.machine c.args.events.now) (g.E.Events.machine c.recover_telling.new.events) (g.E.Events.machine c.force.new.events) (g.E.Events.machine c.seal.new.events) (g.E.Events.machine c.undo_all.new.events)
    (g.E.Events.machine c.force-2.new.events) (g.E.Events.machine c.drain.new.events) (g.E.Events.machine c.finish.new.events) c.in_ok-force-2.field-0
    (c.in_ok-recover_telling.ensures.keeps alone) (c.in_ok-force.ensures.same alone) (c.in_ok-seal.ensures alone) (c.in_ok-undo_all.ensures.along alone) (c.in_ok-undo_all.ensures.done alone) (c.in_ok-force-2.ensures.same alone) (c.in_ok-force-2.ensures.forces alone)
    (c.in_ok-drain.ensures.keeps alone) (c.in_ok-drain.ensures.done alone) (c.in_ok-finish.ensures.log alone) (c.in_ok-finish.ensures.drained alone) (c.in_ok-finish.ensures.synced alone) (c.in_ok-check_primary.ensures alone) (c.in_ok-check_stable.ensures alone)
