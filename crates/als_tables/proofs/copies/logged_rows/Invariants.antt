use Rattle.als_tables.proofs.Rows.{AreFirst}
use Rattle.als_tables.proofs.copies.logged_rows.Given as goal

abbrev pub invariant-loop-at : goal.invariant-loop-at
invariant-loop-at l = AreFirst l.fn.rows l.at l.copies
