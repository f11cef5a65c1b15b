use Rattle.std.proofs.Common.{◌≡◌, ℕ, List, Option}
use Rattle.als_record.specs.Validity.{IsValidLog}
use Rattle.als_lookback.specs.Fronts.{EndsWithin}
use Rattle.als_lookback.specs.Readings.{Reads}
use Rattle.als_lookback.proofs.Taken.{Gathered}
use Rattle.als_lookback.proofs.cutting.gather.Given as goal

abbrev pub invariant-loop : goal.invariant-loop
invariant-loop g l = record {
  pages : l.reading.pages ≡ l.fn.reading.pages;
  valid : IsValidLog l.reading.pages l.reading.log;
  within : EndsWithin l.until l.reading.log;
  reads : (text : Option (List ℕ)) → Reads text l.fn.reading → Reads text l.reading;
  taken : Gathered l.fn.reading.log l.reading.log l.fn.spelled.bytes.items l.spelled.bytes.items;
}
