-- A front of a log is known by its end.
use Rattle.std.proofs.Common.{◌≡◌, ◌+◌, List, [], ◌∷◌, ◌++◌, refl, ap, ◌∙◌, arith}
use Rattle.std.specs.List.{sum_by}
use Rattle.std.proofs.lemmas.List.Sums.{sum_by-cons}
use Rattle.als_record.specs.declared.record.Record.{Record}
use Rattle.als_record.specs.Spelling.{record_len}
use Rattle.als_record.specs.LogText.{end_of}
use Rattle.als_record.proofs.PageLaws.{record_len-least}

end_is_sum : (log : List Record) → end_of log ≡ 16 + sum_by record_len log
unfolding end_of
end_is_sum log = refl

same_sum : (a b more left : List Record) → a ++ more ≡ b ++ left
    → sum_by record_len a ≡ sum_by record_len b → a ≡ b
same_sum [] [] more left e same = refl
same_sum [] (s ∷ b) more left e same =
    absurd (omega (arith, same, sum_by-cons record_len s b, record_len-least s))
same_sum (r ∷ a) [] more left e same =
    absurd (omega (arith, same, sum_by-cons record_len r a, record_len-least r))
same_sum (r ∷ a) (s ∷ b) more left e same =
    let first : r ≡ s = cc in
    let others : a ++ more ≡ b ++ left = cc in
    let len = ap record_len first in
    ap (λ (x : Record). x ∷ a) first ∙ ap (λ (xs : List Record). s ∷ xs)
    (same_sum a b more left others
    (omega (arith, same, sum_by-cons record_len r a, sum_by-cons record_len s b, len)))

pub same_front : (a b more left : List Record) → a ++ more ≡ b ++ left → end_of a ≡ end_of b
    → a ≡ b
same_front a b more left e same =
    same_sum a b more left e (omega (arith, same, end_is_sum a, end_is_sum b))
