-- What was written, also where the writer failed.
use Rattle.std.proofs.Common.{◌≡◌, ℕ, List, [], ◌++◌, take, drop, Option, refl, subst, sym, ap, ◌∙◌, append_assoc, append-nil, take-append-drop}
use Rattle.std.specs.Io.KnownBytes.{Appends, Keeps}
use Rattle.std.proofs.KnownBytes.{Appends-trans, Appends-nil, Appends-kept}
use Rattle.als_wire.specs.Sending.{Puts}

pub appends_kept : (old new : Option (List ℕ)) → Keeps old new → Appends old new []
appends_kept old new kept = Appends-kept old old new [] (Appends-nil old) kept

pub appends_none : (old new : Option (List ℕ)) (bytes : List ℕ) → Appends old new (take 0 bytes) → Appends old new []
appends_none old new bytes a = a

pub appends_both : (a b c : Option (List ℕ)) (xs ys : List ℕ) → Appends a b xs → Appends b c ys → Appends a c (xs ++ ys)
appends_both a b c xs ys = Appends-trans a b c xs ys

-- nothing more was written
pub appends_more : (a b c : Option (List ℕ)) (xs : List ℕ) → Appends a b xs → Appends b c [] → Appends a c xs
appends_more a b c xs first none = subst (Appends a c) (append-nil xs) (Appends-trans a b c xs [] first none)

pub puts_nothing : (bytes : List ℕ) (m : Option (List ℕ)) → Puts bytes m m
puts_nothing bytes m = ([], bytes, refl, Appends-nil m)

-- all of them were
pub puts_whole : (bytes : List ℕ) (old new : Option (List ℕ)) → Appends old new bytes → Puts bytes old new
puts_whole bytes old new all = (bytes, [], sym (append-nil bytes), all)

-- all of them were, and nothing more
pub puts_flushed : (bytes : List ℕ) (old mid new : Option (List ℕ)) → Appends old mid bytes → Appends mid new [] → Puts bytes old new
puts_flushed bytes old mid new all none = puts_whole bytes old new (appends_more old mid new bytes all none)

-- the first part failed
pub puts_first : (first second : List ℕ) (old new : Option (List ℕ)) → Puts first old new → Puts (first ++ second) old new
puts_first first second old new (front, rest, split, sent) = (front, rest ++ second, ap (λ (xs : List ℕ). xs ++ second) split ∙ append_assoc front rest second, sent)

-- the first part went well
pub puts_both : (first second : List ℕ) (old mid new : Option (List ℕ)) → Appends old mid first → Puts second mid new → Puts (first ++ second) old new
puts_both first second old mid new whole (front, rest, split, sent) = (first ++ front, rest, ap (λ (xs : List ℕ). first ++ xs) split ∙ sym (append_assoc first front rest), Appends-trans old mid new first front whole sent)

-- some more was written
pub puts_more : (all done rest after : List ℕ) (n : ℕ) (old mid new : Option (List ℕ)) → after ≡ drop n rest → (all ≡ done ++ rest) × Appends old mid done → Appends mid new (take n rest) → (more : List ℕ) × (all ≡ more ++ after) × Appends old new more
puts_more all done rest after n old mid new e so_far some =
    (done ++ take n rest, so_far.0 ∙ ap (λ (xs : List ℕ). done ++ xs) (sym (take-append-drop n rest)) ∙ sym (append_assoc done (take n rest) (drop n rest)) ∙ ap (λ (xs : List ℕ). (done ++ take n rest) ++ xs) (sym e), Appends-trans old mid new done (take n rest) so_far.1 some)
