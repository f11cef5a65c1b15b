use Rattle.std.proofs.Common.{rules, ◌≡◌, length, List, take, drop, ℕ, sym, ◌∙◌, ap}
use Rattle.als_page.proofs.SameLaws.{same-eights, same-later}
use Rattle.als_page.proofs.same.same_tail.Goals as goal

pub returns : goal.returns
returns c =
    let one = c.args.one.now in
    let other = c.args.other.now in
    let len-one : length one ≡ 31 = search rules in
    let len-other : length other ≡ 31 = search rules in
    let first : take 8 (drop 7 one) ≡ take 8 (drop 7 other) = sym c.eight.ensures ∙ c.if-not-same_eight.ensures.0 (search rules) ∙ c.eight-2.ensures in
    let second : take 8 (drop 15 one) ≡ take 8 (drop 15 other) = sym c.eight-3.ensures ∙ c.if-not-same_eight-2.ensures.0 (search rules) ∙ c.eight-4.ensures in (
      (λ same. same-eights one other len-one len-other first second (sym c.eight-5.ensures ∙ c.same_eight-3.ensures.0 same ∙ c.eight-6.ensures)),
      (λ same. c.same_eight-3.ensures.1 (c.eight-5.ensures ∙ ap (λ (l : List ℕ). take 8 l) (same-later one other 16 same) ∙ sym c.eight-6.ensures)),
    )
