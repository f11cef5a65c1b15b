use Rattle.std.proofs.Common.{◌≡◌, ◌++◌, take, flat_map}
use Rattle.als_asking.specs.Telling.{doubt_tokens}
use Rattle.als_asking.proofs.doubt_text.write_each.Given as goal

abbrev pub invariant-loop-i : goal.invariant-loop-i
invariant-loop-i l = (l.text.tokens ≡ l.fn.text.tokens ++ flat_map doubt_tokens (take l.i l.doubts)) × (l.text.before ≡ l.fn.text.before)
