use Rattle.std.proofs.Common.{◌≡◌, ◌≤◌, length, vec_len, vec_capacity}
use Rattle.als_writer.proofs.Below.{FreeBelow}
use Rattle.als_writer.proofs.asking.befores_of.Given as goal

abbrev pub invariant-loop-set : goal.invariant-loop-set
invariant-loop-set g l = record {
  count : vec_len l.befores ≡ l.set-index;
  room : length l.sets ≤ vec_capacity l.befores;
  below : g.E.Events.alone → FreeBelow (g.E.Events.machine l.engine) l.sets l.befores.items l.set-index;
}
