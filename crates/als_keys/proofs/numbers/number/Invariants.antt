use Rattle.std.proofs.Common.{◌≡◌, take}
use Rattle.std.specs.Prelude.{fold, Some}
use Rattle.als_keys.specs.Numbers.{with_digit}
use Rattle.als_keys.proofs.numbers.number.Given as goal

abbrev pub invariant-loop-i : goal.invariant-loop-i
invariant-loop-i l = l.so_far ≡ fold with_digit (Some 0) (take l.i l.text)
