use Rattle.std.specs.Prelude.{◌≡◌}
use Rattle.als_commit.proofs.lines.Lines.next_work.Given as goal

abbrev pub invariant-loop : goal.invariant-loop
invariant-loop g l = l.self.account ≡ l.fn.self.account
