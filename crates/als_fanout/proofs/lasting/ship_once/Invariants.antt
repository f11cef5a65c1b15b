use Rattle.std.proofs.Common.{◌≡◌}
use Rattle.als_fanout.proofs.lasting.ship_once.Given as goal

-- of those who were passed over nothing is printed
abbrev pub invariant-loop : goal.invariant-loop
invariant-loop g l = g.O.Write.contents l.output ≡ g.O.Write.contents l.fn.output
