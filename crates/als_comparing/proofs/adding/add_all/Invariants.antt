use Rattle.std.proofs.Common.{◌≡◌, ◌≤◌, ◌++◌, List, length}
use Rattle.als_sending.specs.Reads.{Read}
use Rattle.als_comparing.specs.Summed.{SumsFront}
use Rattle.als_comparing.proofs.adding.add_all.Given as goal

abbrev pub invariant-loop : goal.invariant-loop
invariant-loop g l = record {
  sums : SumsFront (g.G.Growing.reads l.fn.log) l.fn.summing → SumsFront (g.G.Growing.reads l.log) l.summing;
  within : l.summing.end ≤ l.to;
  room : length l.room ≡ 65536;
  reads : (more : List Read) × (g.G.Growing.reads l.log ≡ g.G.Growing.reads l.fn.log ++ more);
  shown : g.G.Growing.shown l.log ≡ g.G.Growing.shown l.fn.log;
  seals : g.G.Growing.seals l.log ≡ g.G.Growing.seals l.fn.log;
  pages : g.G.Growing.pages l.log ≡ g.G.Growing.pages l.fn.log;
}
