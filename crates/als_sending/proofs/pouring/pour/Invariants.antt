use Rattle.std.proofs.Common.{◌≡◌, ◌≤◌, length}
use Rattle.std.specs.Io.KnownBytes.{Keeps}
use Rattle.als_sending.specs.Going.{IsWay, Goes}
use Rattle.als_sending.proofs.pouring.pour.Given as goal

abbrev pub invariant-loop : goal.invariant-loop
invariant-loop g l = record {
  goes : Goes l.fn.way l.way (g.G.Growing.reads l.fn.log) (g.G.Growing.reads l.log) (g.M.Marks.heard l.fn.marks) (g.M.Marks.heard l.marks) (g.R.Read.remaining l.fn.reader) (g.R.Read.remaining l.reader) (g.W.Write.contents l.fn.writer) (g.W.Write.contents l.writer);
  is : IsWay l.way (g.G.Growing.shown l.log);
  room : length l.room ≡ 65536;
  rises : g.G.Growing.shown l.fn.log ≤ g.G.Growing.shown l.log;
  begun : Keeps (g.M.Marks.begun l.fn.marks) (g.M.Marks.begun l.marks);
  seals : g.G.Growing.seals l.log ≡ g.G.Growing.seals l.fn.log;
  pages : g.G.Growing.pages l.log ≡ g.G.Growing.pages l.fn.log;
}
