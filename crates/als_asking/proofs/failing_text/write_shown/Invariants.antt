use Rattle.std.proofs.Common.{◌≡◌, ◌++◌, take, flat_map}
use Rattle.als_asking.specs.Telling.{unmet_tokens}
use Rattle.als_asking.proofs.failing_text.write_shown.Given as goal

abbrev pub invariant-loop-i : goal.invariant-loop-i
invariant-loop-i l = (l.text.tokens ≡ l.fn.text.tokens ++ flat_map unmet_tokens (take l.i l.shown)) × (l.text.before ≡ l.fn.text.before)
