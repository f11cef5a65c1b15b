use Rattle.std.proofs.Common.{◌≡◌}
use Rattle.als_fanout.proofs.growing_log.GrowingLogGrowing.wait_past.Given as goal

abbrev pub invariant-loop : goal.invariant-loop
invariant-loop g l = record {
  account : l.self.account ≡ l.fn.self.account;
  shown : l.self.shown ≡ l.fn.self.shown;
  header : l.self.header ≡ l.fn.self.header;
}
