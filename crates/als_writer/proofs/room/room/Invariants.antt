use Rattle.std.proofs.Common.{◌≡◌, ℕ, ◌+◌, ◌*◌, ◌≤◌, List, take, All}
use Rattle.als_record.specs.declared.record.Record.{Record as AnyRecord}
use Rattle.als_record.specs.Spelling.{IsImage}
use Rattle.als_writing.specs.Writing.{room_for}
use Rattle.als_writer.specs.Placing.{AreBefores}
use Rattle.als_writer.specs.Checking.{AreApart}
use Rattle.als_writer.proofs.room.room.Given as goal

abbrev pub invariant-loop-i : goal.invariant-loop-i
invariant-loop-i l = record {
  so_far : (log : List AnyRecord) (t : ℕ) → AreBefores log l.fn.sets l.fn.befores → AreApart l.fn.sets → l.bytes ≡ room_for log t (take l.i l.fn.sets);
  most : l.bytes ≤ 170 * l.i + 28;
  images : All (λ w. IsImage w.after) (take l.i l.fn.sets);
}
