-- Which of the transactions comes next.
use Rattle.std.proofs.Common.{◌≡◌, ℕ, ◌<◌, Bool, true, false, List, [], ◌∷◌, length, get_or, Some, None, refl, sym, ◌∙◌, arith, zero, suc, le_of_suc-le-suc}
use Rattle.std.specs.Prelude.{find}
use Rattle.std.proofs.lemmas.Bool.{false≢true}
use Rattle.als_analysis.specs.declared.open_row.OpenRow.{OpenRow}
use Rattle.als_takeover.specs.Next.{is_over, IsTop, IsTurn}

-- none passes where each fails
find-all : {X : Type 0} (p : X → Bool) (xs : List X) (d : X) → ((k : ℕ) → k < length xs → p (get_or xs k d) ≡ false) → find p xs ≡ None
find-all p [] d all = refl
find-all p (x ∷ xs) d all = rw (all 0 (omega arith)) (find-all p xs d (λ k lt. all (suc k) (omega (arith, lt))))

-- the first one that passes is found
find-at : {X : Type 0} (p : X → Bool) (xs : List X) (i : ℕ) (d : X) → i < length xs → ((k : ℕ) → k < i → p (get_or xs k d) ≡ false) → p (get_or xs i d) ≡ true → find p xs ≡ Some (get_or xs i d)
find-at p [] i d lt all passes = absurd (omega (arith, lt))
find-at p (x ∷ xs) zero d lt all passes = rw passes refl
find-at p (x ∷ xs) (suc i) d lt all passes = rw (all 0 (omega arith)) (find-at p xs i d (le_of_suc-le-suc lt) (λ k l. all (suc k) (omega (arith, l))) passes)

-- it is the turn of the first with nothing to undo
pub turn-over : (rows : List OpenRow) (at : ℕ) → at < length rows → ((d : OpenRow) (k : ℕ) → k < at → is_over (get_or rows k d) ≡ false) → ((d : OpenRow) → is_over (get_or rows at d) ≡ true) → IsTurn rows at
turn-over rows at lt before here = record {
  within = lt;
  over = λ d e. find-at is_over rows at d lt (before d) (here d);
  left = λ d e. absurd (false≢true (sym e ∙ here d));
  top = λ d e. absurd (false≢true (sym e ∙ here d));
}

-- or of the one with the greatest LSN
pub turn-top : (rows : List OpenRow) (at : ℕ) → at < length rows → ((d : OpenRow) (k : ℕ) → k < length rows → is_over (get_or rows k d) ≡ false) → IsTop rows at → IsTurn rows at
turn-top rows at lt none top = record {
  within = lt;
  over = λ d e. absurd (false≢true (sym (none d at lt) ∙ e));
  left = λ d e. find-all is_over rows d (none d);
  top = λ d e. top;
}
