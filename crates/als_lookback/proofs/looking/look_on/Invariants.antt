use Rattle.std.proofs.Common.{◌≡◌, ℕ, List, Option}
use Rattle.als_record.specs.Validity.{IsValidLog}
use Rattle.als_lookback.specs.Fronts.{EndsWithin}
use Rattle.als_lookback.specs.Readings.{Reads}
use Rattle.als_lookback.specs.Seen.{IsSeenOf}
use Rattle.als_lookback.proofs.looking.look_on.Given as goal

abbrev pub invariant-loop : goal.invariant-loop
invariant-loop g l = record {
  pages : l.reading.pages ≡ l.fn.reading.pages;
  valid : IsValidLog l.reading.pages l.reading.log;
  within : EndsWithin l.until l.reading.log;
  reads : (text : Option (List ℕ)) → Reads text l.fn.reading → Reads text l.reading;
  seen : (pages : ℕ) → IsSeenOf l.fn.seen pages l.fn.reading.log → IsSeenOf l.seen pages l.reading.log;
}
