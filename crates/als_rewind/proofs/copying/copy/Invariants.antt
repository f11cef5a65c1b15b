use Rattle.als_rewind.proofs.Copied.{Copied}
use Rattle.als_rewind.proofs.copying.copy.Given as goal

abbrev pub invariant-loop : goal.invariant-loop
invariant-loop g l = record {
  so_far : Copied (g.R.Read.remaining l.fn.reader) (g.R.Read.remaining l.reader) (g.W.Write.contents l.fn.writer) (g.W.Write.contents l.writer) l.count;
}
