-- The reserve of a log behind some records of one transaction.
use Rattle.std.proofs.Common.{◌≡◌, ℕ, ◌==◌, ◌+◌, false, cond, List, [], ◌∷◌, ◌++◌, sum_by, reverse, refl, sym, ap, ◌∙◌, arith}
use Rattle.std.proofs.lemmas.Bool.{or_parts}
use Rattle.std.proofs.lemmas.List.{reverse-append}
use Rattle.std.proofs.lemmas.List.Sums.{sum_by-cons, sum_by-append}
use Rattle.als_record.specs.declared.record.Record.{Record}
use Rattle.als_record.specs.Spelling.{record_len}
use Rattle.als_record.specs.LogText.{end_of}
use Rattle.als_record.specs.Transactions.{is_among, is_open, is_in_doubt, unended}
use Rattle.als_record.specs.Tail.{undo_bytes, reserve_of}
use Rattle.als_record.proofs.Reserve.{reserve_of-each}
use Rattle.als_writing.proofs.Beside.{Beside}

-- what an unended transaction adds to the reserve
abbrev pub share : List Record → ℕ → ℕ
share log t = 28 + cond (is_in_doubt log t) 28 0 + cond (is_open log t) (undo_bytes log t) 0

module _ (t : ℕ) (log more : List Record) (b : Beside t log more) where
  share-other : (x : ℕ) → (x == t) ≡ false → share more x ≡ share log x
  share-other x e = rw (b.in_doubt x e, b.open_one x e, b.bytes x e) refl

  shares-others : (ts : List ℕ) → is_among ts t ≡ false → sum_by (share more) ts ≡ sum_by (share log) ts
  shares-others [] n = refl
  shares-others (x ∷ ts) n =
      let p : ((x == t) ≡ false) × (is_among ts t ≡ false) = or_parts (x == t) (is_among ts t) n in
      sum_by-cons (share more) x ts
      ∙ ap (λ n. n + sum_by (share more) ts) (share-other x p.0)
      ∙ ap (λ n. share log x + n) (shares-others ts p.1)
      ∙ sym (sum_by-cons (share log) x ts)

  -- where the same are unended it is the same
  pub reserve_of-without : is_among (unended log) t ≡ false → unended more ≡ unended log → reserve_of more ≡ reserve_of log
  reserve_of-without n e = reserve_of-each more ∙ ap (sum_by (share more)) e ∙ shares-others (unended log) n ∙ sym (reserve_of-each log)

  -- where this one is unended besides it is more by its part
  pub reserve_of-with : is_among (unended log) t ≡ false → unended more ≡ unended log ++ t ∷ [] → reserve_of more ≡ reserve_of log + share more t
  reserve_of-with n e =
      let a : reserve_of more ≡ sum_by (share more) (unended log) + sum_by (share more) (t ∷ []) = reserve_of-each more ∙ ap (sum_by (share more)) e ∙ sum_by-append (share more) (unended log) (t ∷ []) in
      let c : sum_by (share more) (unended log) ≡ reserve_of log = shares-others (unended log) n ∙ sym (reserve_of-each log) in
      let d : sum_by (share more) (t ∷ []) ≡ share more t + sum_by (share more) [] = sum_by-cons (share more) t [] in
      a ∙ ap (λ n. n + sum_by (share more) (t ∷ [])) c ∙ ap (λ n. reserve_of log + n) (d ∙ nothing (share more t))
    where
      nothing : (n : ℕ) → n + 0 ≡ n
      nothing n = omega arith

-- the end of a log and more of it
pub end_of-append : (log more : List Record) → end_of (log ++ more) ≡ end_of log + sum_by record_len more
unfolding end_of
end_of-append log more = let e : sum_by record_len (log ++ more) ≡ sum_by record_len log + sum_by record_len more = sum_by-append record_len log more in omega arith

-- a sum over a list turned round
pub sum_by-reverse : (f : Record → ℕ) (us : List Record) → sum_by f (reverse us) ≡ sum_by f us
sum_by-reverse f [] = refl
sum_by-reverse f (u ∷ us) =
    let a : sum_by f (reverse (u ∷ us)) ≡ sum_by f (reverse us ++ u ∷ []) = ap (sum_by f) (reverse-append (u ∷ []) us) in
    let b : sum_by f (reverse us ++ u ∷ []) ≡ sum_by f (reverse us) + sum_by f (u ∷ []) = sum_by-append f (reverse us) (u ∷ []) in
    let c : sum_by f (u ∷ us) ≡ f u + sum_by f us = sum_by-cons f u us in
    let d : sum_by f (reverse us) ≡ sum_by f us = sum_by-reverse f us in
    let e : sum_by f (u ∷ []) ≡ f u = sum_by-cons f u [] ∙ zero-right in
    omega arith
  where
    zero-right : f u + 0 ≡ f u
    zero-right = omega arith
