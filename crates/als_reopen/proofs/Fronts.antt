-- Fronts of a log, and where they end.
use Rattle.std.proofs.Common.{◌≡◌, ◌+◌, ◌<◌, ◌≤◌, List, [], ◌∷◌, ◌++◌, length, refl, ap, ◌∙◌, arith}
use Rattle.std.specs.List.{sum_by}
use Rattle.std.proofs.lemmas.List.Sums.{sum_by-cons}
use Rattle.als_record.specs.declared.record.Record.{Record}
use Rattle.als_record.specs.Spelling.{record_len}
use Rattle.als_record.specs.LogText.{end_of}
use Rattle.als_record.proofs.PageLaws.{record_len-least}

end_is_sum : (log : List Record) → end_of log ≡ 16 + sum_by record_len log
unfolding end_of
end_is_sum log = refl

-- how many records a log can have
pub length-below_end : (log : List Record) → length log ≤ end_of log
unfolding end_of
length-below_end [] = omega arith
length-below_end (r ∷ rest) = omega (arith, sum_by-cons record_len r rest, record_len-least r, length-below_end rest)

same_sum : (a b more left : List Record) → a ++ more ≡ b ++ left → sum_by record_len a ≡ sum_by record_len b → a ≡ b
same_sum [] [] more left e same = refl
same_sum [] (s ∷ b) more left e same = absurd (omega (arith, same, sum_by-cons record_len s b, record_len-least s))
same_sum (r ∷ a) [] more left e same = absurd (omega (arith, same, sum_by-cons record_len r a, record_len-least r))
same_sum (r ∷ a) (s ∷ b) more left e same =
    let first : r ≡ s = cc in
    let others : a ++ more ≡ b ++ left = cc in
    let len = ap record_len first in
    ap (λ (x : Record). x ∷ a) first ∙ ap (λ (xs : List Record). s ∷ xs) (same_sum a b more left others (omega (arith, same, sum_by-cons record_len r a, sum_by-cons record_len s b, len)))

-- a front of a log is known by its end
pub same_front : (a b more left : List Record) → a ++ more ≡ b ++ left → end_of a ≡ end_of b → a ≡ b
same_front a b more left e same = same_sum a b more left e (omega (arith, same, end_is_sum a, end_is_sum b))

none_between : (a more b left : List Record) (r : Record) → a ++ more ≡ b ++ r ∷ left → sum_by record_len b < sum_by record_len a → sum_by record_len a < sum_by record_len (b ++ r ∷ []) → ⊥
none_between [] more b left r e low high = omega (arith, low)
none_between (s ∷ a) more [] left r e low high =
    let first : s ≡ r = cc in
    omega (arith, high, sum_by-cons record_len s a, sum_by-cons record_len r [], ap record_len first)
none_between (s ∷ a) more (t ∷ b) left r e low high =
    let first : s ≡ t = cc in
    let others : a ++ more ≡ b ++ r ∷ left = cc in
    none_between a more b left r others (omega (arith, low, sum_by-cons record_len s a, sum_by-cons record_len t b, ap record_len first))
    (omega (arith, high, sum_by-cons record_len s a, sum_by-cons record_len t (b ++ r ∷ []), ap record_len first))

-- no front of a log ends within one of its records
pub none_within : (a more b left : List Record) (r : Record) → a ++ more ≡ b ++ r ∷ left → end_of b < end_of a → end_of a < end_of (b ++ r ∷ []) → ⊥
none_within a more b left r e low high = none_between a more b left r e (omega (arith, low, end_is_sum a, end_is_sum b)) (omega (arith, high, end_is_sum a, end_is_sum (b ++ r ∷ [])))
