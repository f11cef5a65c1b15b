use Rattle.std.specs.List.{AllByRecursion}
use Rattle.std.proofs.Common.{take}
use Rattle.als_record.specs.Spelling.{IsLoggedPage}
use Rattle.als_store.proofs.store.checkpoint.rows_fit.Given as goal

abbrev pub invariant-loop-at : goal.invariant-loop-at
invariant-loop-at l = AllByRecursion IsLoggedPage (take l.at l.fn.rows)
