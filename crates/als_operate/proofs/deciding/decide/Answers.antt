use Rattle.std.proofs.Common.{◌≡◌}
use Rattle.als_operate.proofs.Decisions.{decided}
use Rattle.als_operate.proofs.deciding.decide.Goals as goal

pub returns : goal.returns
returns g c = record {
  done = λ alone. decided (g.E.Events.machine c.args.events.now) (g.E.Events.machine c.recover_telling.new.events) (g.E.Events.machine c.resolve.new.self) (g.E.Events.machine c.undo_all.new.events) (g.E.Events.machine c.force.new.events) (g.E.Events.machine c.drain.new.events) c.args.trans c.args.verdict c.in_ok-resolve.field-0
      (c.in_ok-recover_telling.ensures.keeps alone) (c.in_ok-resolve.ensures.resolves alone) (c.in_ok-undo_all.ensures.along alone) (c.in_ok-undo_all.ensures.done alone) (c.in_ok-force.ensures.same alone) (c.in_ok-drain.ensures.keeps alone) (c.in_ok-check_stable.ensures alone) (c.in_ok-drain.ensures.done alone);
}
