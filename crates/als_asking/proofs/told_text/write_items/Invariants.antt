use Rattle.std.proofs.Common.{◌≡◌, ◌++◌, take, flat_map}
use Rattle.als_asking.specs.Telling.{item_tokens}
use Rattle.als_asking.proofs.told_text.write_items.Given as goal

abbrev pub invariant-loop-i : goal.invariant-loop-i
invariant-loop-i l = (l.text.tokens ≡ l.fn.text.tokens ++ flat_map item_tokens (take l.i l.outcomes)) × (l.text.before ≡ l.fn.text.before)
