use Rattle.std.proofs.Common.{◌≡◌, List, ◌∷◌, take, drop, ℕ, sym, ◌∙◌, ap}
use Rattle.als_record.specs.Spelling.{Image}
use Rattle.als_record.specs.KeptImages.{first_of, rest_of}
use Rattle.als_page.proofs.SameLaws.{same-image, same-parts}
use Rattle.als_page.proofs.same.same_image.Goals as goal

pub returns-then-same_eight : goal.returns-then-same_eight
returns-then-same_eight c =
    let one = c.args.one.now in
    let other = c.args.other.now in
    let firsts : first_of one ∷ take 7 (rest_of one) ≡ first_of other ∷ take 7 (rest_of other) =
    sym c.first_eight.ensures ∙ c.same_eight.ensures.0 c.if-same_eight.true ∙ c.first_eight-2.ensures in (
      (λ same.
          let tails : drop 7 (rest_of one) ≡ drop 7 (rest_of other) =
          ap (λ (l : List ℕ). drop 7 l) (sym c.rest.ensures) ∙ c.same_tail.ensures.0 same ∙ ap (λ (l : List ℕ). drop 7 l) c.rest-then-same_eight.ensures in
          let (first, rest) = same-parts (first_of one) (first_of other) (rest_of one) (rest_of other) firsts tails in
          same-image one other first rest),
      (λ same. c.same_tail.ensures.1 (ap (λ (l : List ℕ). drop 7 l) (c.rest.ensures ∙ ap (λ (i : Image). rest_of i) same ∙ sym c.rest-then-same_eight.ensures))),
    )
