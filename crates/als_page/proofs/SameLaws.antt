-- Two images that are kept in the same bytes are the same.
use Rattle.std.specs.Prelude.{ℕ, ◌+◌, ◌-◌, List, [], ◌∷◌, ◌++◌, length, take, drop, replicate, slice_index, Some, None}
use Rattle.std.proofs.Common.{◌≡◌, ◌∙◌, sym, ap, refl, arith}
use Rattle.std.proofs.lemmas.List.{take_at, take-append-drop, drop-drop, drop_all}
use Rattle.als_record.specs.Spelling.{Image}
use Rattle.als_record.specs.KeptImages.{image_kept, first_of, rest_of, image_kept-value}

-- an image is what its bytes keep
pub kept-again : (image : Image) → image_kept (first_of image) (rest_of image) ≡ image
kept-again None = refl
kept-again (Some value) =
    let pad : List ℕ = replicate (31 - length value.items) 0 in
    let len : length value.items ≡ length value.items + 1 - 1 = omega arith in
    image_kept-value (length value.items + 1) (value.items ++ pad) (omega arith)
    ∙ ap (λ (l : List ℕ). Some (record { items = l })) (take_at value.items pad (length value.items + 1 - 1) len)

-- images with the same bytes are the same
pub same-image : (one other : Image) → first_of one ≡ first_of other → rest_of one ≡ rest_of other → one ≡ other
same-image one other first rest =
    sym (kept-again one) ∙ ap (λ n. image_kept n (rest_of one)) first ∙ ap (λ r. image_kept (first_of other) r) rest ∙ kept-again other

-- two lists whose first seven are the same after one item, and whose rests are the same, are the same
pub same-parts : (a b : ℕ) (one other : List ℕ) → a ∷ take 7 one ≡ b ∷ take 7 other → drop 7 one ≡ drop 7 other → (a ≡ b) × (one ≡ other)
same-parts a b one other firsts rests =
    let fronts : take 7 one ≡ take 7 other = ap (λ (l : List ℕ). drop 1 l) firsts in (
      ap (λ (l : List ℕ). slice_index l 0) firsts,
      sym (take-append-drop 7 one) ∙ ap (λ (l : List ℕ). l ++ drop 7 one) fronts ∙ ap (λ (l : List ℕ). take 7 other ++ l) rests ∙ take-append-drop 7 other,
    )

-- from a place on a list is eight items and the rest
pub eight-more : (l : List ℕ) (n : ℕ) → take 8 (drop n l) ++ drop (n + 8) l ≡ drop n l
eight-more l n = ap (λ (rest : List ℕ). take 8 (drop n l) ++ rest) (sym (drop-drop 8 n l)) ∙ take-append-drop 8 (drop n l)

-- lists of 31 items that are the same at three times eight places are the same from the seventh on
pub same-eights : (one other : List ℕ) → length one ≡ 31 → length other ≡ 31
    → take 8 (drop 7 one) ≡ take 8 (drop 7 other) → take 8 (drop 15 one) ≡ take 8 (drop 15 other) → take 8 (drop 23 one) ≡ take 8 (drop 23 other)
    → drop 7 one ≡ drop 7 other
same-eights one other len-one len-other first second third =
    let none-one : drop 31 one ≡ [] = drop_all 31 one (omega (arith, len-one)) in
    let none-other : drop 31 other ≡ [] = drop_all 31 other (omega (arith, len-other)) in
    let from23 : drop 23 one ≡ drop 23 other =
    sym (eight-more one 23) ∙ ap (λ (l : List ℕ). l ++ drop 31 one) third ∙ ap (λ (l : List ℕ). take 8 (drop 23 other) ++ l) (none-one ∙ sym none-other) ∙ eight-more other 23 in
    let from15 : drop 15 one ≡ drop 15 other =
    sym (eight-more one 15) ∙ ap (λ (l : List ℕ). l ++ drop 23 one) second ∙ ap (λ (l : List ℕ). take 8 (drop 15 other) ++ l) from23 ∙ eight-more other 15 in
    sym (eight-more one 7) ∙ ap (λ (l : List ℕ). l ++ drop 15 one) first ∙ ap (λ (l : List ℕ). take 8 (drop 7 other) ++ l) from15 ∙ eight-more other 7

-- lists that are the same from the seventh on are the same from a later place on
pub same-later : (one other : List ℕ) (n : ℕ) → drop 7 one ≡ drop 7 other → drop (7 + n) one ≡ drop (7 + n) other
same-later one other n same = sym (drop-drop n 7 one) ∙ ap (λ (l : List ℕ). drop n l) same ∙ drop-drop n 7 other
