use Rattle.std.proofs.Common.{◌≡◌, ℕ, List, Option}
use Rattle.als_record.specs.Commits.{commits_of}
use Rattle.als_record.specs.Validity.{IsValidLog}
use Rattle.als_lookback.specs.Past.{past_of}
use Rattle.als_lookback.specs.Readings.{Reads}
use Rattle.als_lookback.proofs.past.count_on.Given as goal

abbrev pub invariant-loop : goal.invariant-loop
invariant-loop g l = record {
  valid : IsValidLog l.reading.pages l.reading.log;
  reads : (text : Option (List ℕ)) → Reads text l.fn.reading → Reads text l.reading;
  counted : (from : ℕ) → l.fn.past ≡ past_of from (commits_of l.fn.reading.log) → l.past ≡ past_of from (commits_of l.reading.log);
}
