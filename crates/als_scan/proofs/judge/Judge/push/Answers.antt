use Rattle.std.proofs.Common.{ap, arith}
use Rattle.als_scan.specs.Judged.{position_of}
use Rattle.als_scan.proofs.judge.Judge.push.Goals as goal

pub push-requires : goal.push-requires
push-requires c = omega (arith, ap position_of c.self.view_is, c.self.invariant.wanted, c.requires)
