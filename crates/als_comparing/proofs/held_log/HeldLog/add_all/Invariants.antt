use Rattle.std.proofs.Common.{◌≡◌, ◌≤◌, length}
use Rattle.als_sending.specs.Accounts.{reads_of}
use Rattle.als_comparing.specs.Summed.{SumsFront}
use Rattle.als_comparing.proofs.held_log.HeldLog.add_all.Given as goal

abbrev pub invariant-loop : goal.invariant-loop
invariant-loop g l = record {
  sums : SumsFront (reads_of l.fn.self.account) l.fn.self.summing → SumsFront (reads_of l.self.account) l.self.summing;
  below : l.self.summing.end ≤ l.end;
  room : length l.room ≡ 65536;
}
