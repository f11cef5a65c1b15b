use Rattle.std.proofs.Common.{◌≡◌, ℕ, List, Option}
use Rattle.als_record.specs.Validity.{IsValidLog}
use Rattle.als_lookback.specs.Fronts.{EndsWithin}
use Rattle.als_lookback.specs.Readings.{Reads}
use Rattle.als_lookback.proofs.Taken.{Poured}
use Rattle.als_lookback.proofs.cutting.pour.Given as goal

abbrev pub invariant-loop : goal.invariant-loop
invariant-loop g l = record {
  pages : l.reading.pages ≡ l.fn.reading.pages;
  valid : IsValidLog l.reading.pages l.reading.log;
  within : EndsWithin l.until l.reading.log;
  reads : (text : Option (List ℕ)) → Reads text l.fn.reading → Reads text l.reading;
  taken : Poured l.fn.reading.log l.reading.log (g.W.Write.contents l.fn.writer) (g.W.Write.contents l.writer);
}
