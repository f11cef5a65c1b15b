use Rattle.std.proofs.Common.{◌≡◌, ℕ, ◌+◌, ◌≤◌, true, List, ◌++◌, drop, Option}
use Rattle.std.specs.Io.KnownBytes.{Appends}
use Rattle.als_record.specs.declared.record.Record.{Record as AnyRecord}
use Rattle.als_record.specs.LogText.{log_text, end_of}
use Rattle.als_record.specs.Transactions.{greatest_trans}
use Rattle.als_record.specs.Validity.{is_valid}
use Rattle.als_renew.specs.Carried.{carried, MayCarry, HasNow}
use Rattle.als_renew.proofs.Doubting.{CarriedSoFar}
use Rattle.als_renew.proofs.carrying.write_doubts.Given as goal

abbrev pub invariant-loop-i : goal.invariant-loop-i
invariant-loop-i g l = record {
  room : l.reached.end.0 ≤ l.fn.from.end.0 + 2147484000;
  so_far : (pages : ℕ) (log : List AnyRecord) (before : Option (List ℕ)) → is_valid log ≡ true → MayCarry pages log l.fn.doubts → HasNow l.fn.now pages log
      → l.fn.from.end.0 ≡ end_of log → l.fn.from.greatest.0 ≡ greatest_trans log → Appends before (g.W.Write.contents l.fn.writer) (log_text pages log)
      → CarriedSoFar pages (log ++ carried log l.fn.doubts) (drop l.i l.fn.doubts) before (g.W.Write.contents l.writer) l.reached.greatest.0 l.reached.end.0 l.now;
}
