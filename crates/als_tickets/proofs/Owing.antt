-- The outcomes of questions, one after another.
use Rattle.std.proofs.Common.{◌≡◌, ℕ, zero, suc, List, [], ◌∷◌, ◌++◌, length, map, Some, slice_get, refl, ap, sym, subst, ◌∙◌, arith, append_assoc}
use Rattle.std.proofs.lemmas.List.{append-nil, map-append}
use Rattle.als_seats.specs.declared.outcome.Outcome.{Outcome}
use Rattle.als_tickets.specs.Replies.{IsOwed, AreOwed}

-- nothing was answered yet
pub owed_none : {T A : Type 0} (may_tell : T → A → Type 0) (questions : List T) → AreOwed may_tell questions []
owed_none may_tell [] = refl
owed_none may_tell (q ∷ questions) = tt

-- one more outcome is that of the next question
pub owed_more : {T A : Type 0} (may_tell : T → A → Type 0) (questions : List T) (outcomes : List (Outcome A)) (q : T) (o : Outcome A) → AreOwed may_tell questions outcomes
    → slice_get questions (length outcomes) ≡ Some q → IsOwed (may_tell q) o → AreOwed may_tell questions (outcomes ++ o ∷ [])
owed_more may_tell [] outcomes q o all at owed = absurd cc
owed_more may_tell (x ∷ questions) [] q o all at owed =
    let same : x ≡ q = cc at in
    (subst (λ y. IsOwed (may_tell y) o) (sym same) owed, owed_none may_tell questions)
owed_more may_tell (x ∷ questions) (p ∷ outcomes) q o all at owed = (all.0, owed_more may_tell questions outcomes q o all.1 at owed)

-- of more questions
pub owed_front : {T A : Type 0} (may_tell : T → A → Type 0) (some rest all : List T) (outcomes : List (Outcome A)) → all ≡ some ++ rest → AreOwed may_tell some outcomes → AreOwed may_tell all outcomes
owed_front {T} {A} may_tell some rest all outcomes is owed = subst (λ qs. AreOwed may_tell qs outcomes) (sym is) (front some outcomes owed)
  where
    front : (some : List T) (outcomes : List (Outcome A)) → AreOwed may_tell some outcomes → AreOwed may_tell (some ++ rest) outcomes
    front [] outcomes owed = subst (λ os. AreOwed may_tell rest os) (sym owed) (owed_none may_tell rest)
    front (q ∷ some) [] owed = tt
    front (q ∷ some) (o ∷ outcomes) owed = (owed.0, front some outcomes owed.1)

-- what is at an index of a list is its image at that of the list of images
pub get_map : {X T : Type 0} (f : X → T) (xs : List X) (k : ℕ) (x : X) → slice_get xs k ≡ Some x → slice_get (map f xs) k ≡ Some (f x)
get_map f [] k x h = absurd cc
get_map f (y ∷ xs) zero x h = let same : y ≡ x = cc h in ap (λ z. Some (f z)) same
get_map f (y ∷ xs) (suc k) x h = get_map f xs k x h

-- one more ticket is that of the next question
pub numbered_more : {X T : Type 0} (f : X → T) (tickets now : List X) (t : X) (q : T) (yielded : List T) → map f tickets ≡ yielded → now ≡ tickets ++ t ∷ [] → f t ≡ q → map f now ≡ yielded ++ q ∷ []
numbered_more f tickets now t q yielded is joins at =
    ap (map f) joins ∙ map-append f tickets (t ∷ []) ∙ ap (λ qs. qs ++ f t ∷ []) is ∙ ap (λ y. yielded ++ y ∷ []) at
