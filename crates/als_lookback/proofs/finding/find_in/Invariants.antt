use Rattle.std.proofs.Common.{◌≡◌, ℕ, false, List, Option, None}
use Rattle.als_record.specs.Validity.{IsValidLog}
use Rattle.als_lookback.specs.Readings.{Reads}
use Rattle.als_lookback.specs.Seen.{has_commit}
use Rattle.als_lookback.proofs.finding.find_in.Given as goal

abbrev pub invariant-loop : goal.invariant-loop
invariant-loop g l = record {
  valid : IsValidLog l.reading.pages l.reading.log;
  reads : (text : Option (List ℕ)) → Reads text l.fn.reading → Reads text l.reading;
  none : has_commit l.fn.trans.0 l.reading.log ≡ false;
  trans : l.finding.trans.0 ≡ l.fn.trans.0;
  found : l.finding.found ≡ None;
}
