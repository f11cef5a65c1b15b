use Rattle.std.proofs.Common.{◌≡◌, ◌++◌, take, map}
use Rattle.als_report.specs.Texts.{image_token}
use Rattle.als_report.proofs.many.write_each.Given as goal

abbrev pub invariant-loop-i : goal.invariant-loop-i
invariant-loop-i l = (l.text.tokens ≡ l.fn.text.tokens ++ map image_token (take l.i l.images)) × (l.text.before ≡ l.fn.text.before)
