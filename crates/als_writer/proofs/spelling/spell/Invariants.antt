use Rattle.std.proofs.Common.{◌≡◌, ◌+◌, ◌*◌, ◌≤◌, List, map, take}
use Rattle.als_record.specs.declared.record.Record.{Record as AnyRecord}
use Rattle.als_writing.specs.Writing.{Writes}
use Rattle.als_writing.specs.Placing.{IsPlaceOf, SoFar}
use Rattle.als_writer.specs.Placing.{AreBefores}
use Rattle.als_writer.specs.Checking.{AreApart}
use Rattle.als_writer.proofs.spelling.spell.Given as goal

abbrev pub invariant-loop-i : goal.invariant-loop-i
invariant-loop-i l = record {
  so_far : (log : List AnyRecord) → IsPlaceOf l.fn.start log → AreBefores log l.fn.sets l.fn.befores → AreApart l.fn.sets → SoFar log l.fn.start.trans.0 (map Writes (take l.i l.fn.sets)) l.piece.items l.place;
  trans : l.place.trans ≡ l.fn.start.trans;
  end : l.place.end.0 ≤ l.fn.start.end.0 + 97 * l.i;
}
