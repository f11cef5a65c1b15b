use Rattle.std.specs.Prelude.{◌≡◌}
use Rattle.als_drive.specs.Driving.{OnlyRedoes}
use Rattle.als_drive.proofs.draining.drain_telling.Given as goal

abbrev pub invariant-loop-redone : goal.invariant-loop-redone
invariant-loop-redone g l =
    (g.E.Events.alone → OnlyRedoes (g.E.Events.machine l.fn.events) (g.E.Events.machine l.events))
    × (g.E.Events.book l.events ≡ g.E.Events.book l.fn.events)
