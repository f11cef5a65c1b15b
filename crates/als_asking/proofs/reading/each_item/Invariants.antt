use Rattle.std.proofs.Common.{List, ◌++◌}
use Rattle.als_writer.specs.declared.transaction.Transaction.{Transaction}
use Rattle.als_asking.specs.Bodies.{AreItems}
use Rattle.als_asking.proofs.reading.each_item.Given as goal

-- whatever the rest has comes behind what was found
abbrev pub invariant-loop-place : goal.invariant-loop-place
invariant-loop-place l = (more : List Transaction) → AreItems l.rest more → AreItems l.items (l.found.items ++ more)
