use Rattle.std.proofs.Common.{ap, arith}
use Rattle.als_scan.specs.Judged.{position_of}
use Rattle.als_scan.proofs.judge.Judge.position.Goals as goal

pub returns : goal.returns
returns c = omega (arith, c.position.ensures, ap position_of c.self.view_is, c.self.invariant.wanted)
