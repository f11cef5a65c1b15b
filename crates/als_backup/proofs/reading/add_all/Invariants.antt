use Rattle.std.proofs.Common.{◌<◌, length}
use Rattle.als_backup.specs.Texts.{held_in}
use Rattle.als_backup.proofs.Readings.{Adds}
use Rattle.als_backup.proofs.reading.add_all.Given as goal

abbrev pub invariant-loop : goal.invariant-loop
invariant-loop g l = record {
  adds : Adds (held_in l.fn.text) (held_in l.text) (g.R.Read.remaining l.fn.reader) (g.R.Read.remaining l.reader);
  room : 0 < length l.piece;
}
