-- Two fronts of one log.
use Rattle.std.proofs.Common.{◌≡◌, ◌+◌, ◌≤◌, List, [], ◌∷◌, ◌++◌, refl, sym, ap, ◌∙◌, arith, append-nil}
use Rattle.std.specs.List.{sum_by}
use Rattle.std.proofs.lemmas.List.Sums.{sum_by-cons}
use Rattle.als_record.specs.declared.record.Record.{Record}
use Rattle.als_record.specs.LogText.{end_of}
use Rattle.als_record.specs.Spelling.{record_len}
use Rattle.als_record.proofs.PageLaws.{end_of-append, record_len-least}

-- the one that ends first is a front of the other
pub record IsBetween (a ra b rb : List Record) : Type 0 where
  pub more : List Record
  pub longer : b ≡ a ++ more
  pub left : ra ≡ more ++ rb

between : (a ra b rb : List Record) → a ++ ra ≡ b ++ rb → sum_by record_len a ≤ sum_by record_len b
    → IsBetween a ra b rb
between [] ra b rb e le = record { more = b; longer = refl; left = e }
between (x ∷ a) ra [] rb e le =
    let none : sum_by record_len [] ≡ 0 =
    refl in absurd (omega (arith, le, none, sum_by-cons record_len x a, record_len-least x))
between (x ∷ a) ra (y ∷ b) rb e le =
    let first : x ≡ y = cc in
    let others : a ++ ra ≡ b ++ rb = cc in
    let rest = between a ra b rb others
    (omega (
      arith,
      le,
      sum_by-cons record_len x a,
      sum_by-cons record_len y b,
      ap record_len
          first,
    )) in
    record {
      more = rest.more;
      longer =
          ap (λ (z : Record). z ∷ b) (sym first) ∙ ap (λ (zs : List Record). x ∷ zs)
          rest.longer;
      left = rest.left;
    }

end_sum : (log : List Record) → end_of log ≡ 16 + sum_by record_len log
unfolding end_of
end_sum log = refl

pub fronts_of : (log a ra b rb : List Record) → log ≡ a ++ ra → log ≡ b ++ rb → end_of a ≤ end_of b
    → IsBetween a ra b rb
fronts_of log a ra b rb ea eb le =
    between a ra b rb (sym ea ∙ eb) (omega (arith, le, end_sum a, end_sum b))

no_records : (more : List Record) → sum_by record_len more ≤ 0 → more ≡ []
no_records [] le = refl
no_records (r ∷ rest) le = absurd (omega (arith, le, sum_by-cons record_len r rest, record_len-least r))

-- those that end at one offset are one
pub same_front : (log a ra b rb : List Record) → log ≡ a ++ ra → log ≡ b ++ rb → end_of a ≡ end_of b
    → a ≡ b
same_front log a ra b rb ea eb same =
    let f = fronts_of log a ra b rb ea eb (omega (arith, same)) in
    let none : f.more ≡ [] = no_records f.more
    (omega (arith, same, ap end_of f.longer, end_of-append a f.more)) in
    sym (f.longer ∙ ap (λ (xs : List Record). a ++ xs) none ∙ append-nil a)
