use Rattle.std.proofs.Common.{◌≡◌, ℕ, List, Option}
use Rattle.als_lookback.specs.Readings.{Reads}
use Rattle.als_lookback.proofs.reading.Reading.fill.Given as goal

abbrev pub invariant-loop : goal.invariant-loop
invariant-loop g l = record {
  pages : l.self.pages ≡ l.fn.self.pages;
  log : l.self.log ≡ l.fn.self.log;
  reads : (text : Option (List ℕ)) → Reads text l.fn.self → Reads text l.self;
}
