-- What changes make of what both copies have.
use Rattle.std.proofs.Common.{◌≡◌, true, List, [], ◌∷◌, ◌++◌, fold, refl, ap, sym, ◌∙◌, append_assoc}
use Rattle.std.proofs.lemmas.List.{append-nil}
use Rattle.als_record.specs.Commits.{Commit}
use Rattle.als_view.specs.declared.state.State.{State}
use Rattle.als_view.specs.declared.change.Change.{Change}
use Rattle.als_view.specs.declared.change.Change.TheVariants.{Add, Mark}
use Rattle.als_view.specs.declared.state.Marked.{Marked}
use Rattle.als_view.specs.Changes.{changed, added, marked_by}

pub fold_list : (s : State) (ops : List Change) → (fold changed s ops).list ≡ s.list ++ added ops
fold_list s [] = sym (append-nil s.list)
fold_list s (Add c ∷ ops) = fold_list (changed s (Add c)) ops ∙ append_assoc s.list (c ∷ []) (added ops)
fold_list s (Mark t ∷ ops) = fold_list (changed s (Mark t)) ops

pub fold_pages : (s : State) (ops : List Change) → (fold changed s ops).pages ≡ s.pages
fold_pages s [] = refl
fold_pages s (Add c ∷ ops) = fold_pages (changed s (Add c)) ops
fold_pages s (Mark t ∷ ops) = fold_pages (changed s (Mark t)) ops

pub fold_last : {A B : Type 0} (f : B → A → B) (b : B) (xs : List A) (x : A) → fold f b (xs ++ x ∷ []) ≡ f (fold f b xs) x
fold_last f b [] x = refl
fold_last f b (y ∷ xs) x = fold_last f (f b y) xs x

-- the changes and then a mark: the list is open, has the commits that were added, and is the front of the mark
pub fold_marked : (s : State) (ops : List Change) (k : Marked) → fold changed s (ops ++ Mark k.seen ∷ []) ≡ marked_by s (added ops) k
fold_marked s ops k = fold_last changed s ops (Mark k.seen)
    ∙ (ap (λ l. record { pages = (fold changed s ops).pages; listed = true; list = l; seen = k.seen }) (fold_list s ops)
    ∙ ap (λ n. record { pages = n; listed = true; list = s.list ++ added ops; seen = k.seen }) (fold_pages s ops))

pub added-append : (xs ys : List Change) → added (xs ++ ys) ≡ added xs ++ added ys
added-append [] ys = refl
added-append (Add c ∷ xs) ys = ap (λ zs. c ∷ zs) (added-append xs ys)
added-append (Mark t ∷ xs) ys = added-append xs ys

pub added-one : (xs : List Change) (c : Commit) → added (xs ++ Add c ∷ []) ≡ added xs ++ c ∷ []
added-one xs c = added-append xs (Add c ∷ [])

pub added-mark : (xs : List Change) (k : Marked) → added (xs ++ Mark k.seen ∷ []) ≡ added xs
added-mark xs k = added-append xs (Mark k.seen ∷ []) ∙ append-nil (added xs)
