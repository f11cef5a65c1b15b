use Rattle.std.proofs.Common.{◌≡◌, ◌+◌, length}
use Rattle.als_scan.specs.Scanned.{IsScanned}
use Rattle.als_inspect.proofs.counting.read_all_telling.Given as goal

abbrev pub invariant-loop-count : goal.invariant-loop-count
invariant-loop-count g l = record {
  facts : IsScanned l.scan;
  many : length l.scan.log ≡ length l.fn.scan.log + l.count;
}
