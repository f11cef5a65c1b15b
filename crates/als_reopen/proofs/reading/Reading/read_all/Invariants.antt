use Rattle.std.proofs.Common.{◌≡◌, ◌-◌, ◌+◌, false, List}
use Rattle.std.specs.Prelude.{IfSome, if◌then◌else◌}
use Rattle.als_record.specs.declared.record.Record.{Record}
use Rattle.als_record.specs.LogText.{log_text, end_of}
use Rattle.als_record.specs.Commits.{commits_of}
use Rattle.als_record.specs.Validity.{IsValidLog}
use Rattle.als_scan.specs.Scanned.{IsWhole}
use Rattle.als_tables.specs.Fronts.{IsOfFront}
use Rattle.als_reopen.specs.Reading.{IsReading, IsMet, ScansOn, KeepsImages, IsFrontOf}
use Rattle.als_reopen.proofs.reading.Reading.read_all.Given as goal

abbrev pub invariant-loop-more : goal.invariant-loop-more
invariant-loop-more g l = record {
  reading : IsReading l.checkpoint l.self.scan l.self.taken.pool.pool l.self.taken.count;
  waiting : l.self.taken.waiting.queued ≡ commits_of l.self.scan.log;
  met : IsMet l.self.met l.self.scan.log l.checkpoint;
  ended : l.more ≡ false → IsWhole l.self.scan × IfSome l.checkpoint (IsOfFront l.self.scan.log);
  scan : ScansOn l.fn.self.scan l.self.scan;
  images : KeepsImages l.fn.self.taken.pool.pool l.self.taken.pool.pool;
  frames : l.self.taken.pool.pool.frames ≡ l.fn.self.taken.pool.pool.frames;
  done : l.self.scan.failures ≡ l.fn.self.scan.failures;
  front : (whole : List Record) → IsValidLog l.fn.self.scan.pages whole → l.fn.self.scan.text ≡ log_text l.fn.self.scan.pages whole → IsFrontOf l.fn.self.scan.log whole → IsFrontOf l.self.scan.log whole;
}

abbrev pub decreases-loop-more : goal.decreases-loop-more
decreases-loop-more g l = l.self.scan.mark - end_of l.self.scan.log + (if l.more then 1 else 0)
