use Rattle.std.proofs.Common.{◌≡◌, take}
use Rattle.als_writer.specs.Asking.{unmet_by}
use Rattle.als_writer.proofs.asking.failing_of.Given as goal

abbrev pub invariant-loop-ask : goal.invariant-loop-ask
invariant-loop-ask g l = record {
  first : g.E.Events.alone → l.failing ≡ take 8 (unmet_by l.changes (g.E.Events.machine l.engine).held.log (take l.ask-index l.asks));
}
