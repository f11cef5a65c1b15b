-- What is kept of a text when one more block is read, and when the text or its base grows.
use Rattle.std.proofs.Common.{◌≡◌, ℕ, ◌+◌, ◌*◌, ◌≤◌, List, ◌++◌, length, Option, Some, None, sym, subst, ◌∙◌, arith}
use Rattle.std.specs.Prelude.{IfSome}
use Rattle.std.proofs.lemmas.List.{get_or_append_left}
use Rattle.als_log.specs.declared.kept_block.KeptBlock.{KeptBlock}
use Rattle.als_log.specs.declared.near.Near.{Near}
use Rattle.als_log.specs.Near.{IsKept, IsNear, IsBlockBelow}

-- ---- one block

-- nothing is kept
kept-none : (kept : KeptBlock) (text : List ℕ) (base : ℕ) → kept.index ≡ None → IsKept kept text base
kept-none kept text base is = subst (λ (o : Option ℕ). IfSome o (λ i. IsBlockBelow i kept.bytes text base)) (sym is) tt

-- a longer text
kept-push : (index : Option ℕ) (bytes text more : List ℕ) (base : ℕ) → base ≤ length text → IfSome index (λ i. IsBlockBelow i bytes text base) → IfSome index (λ i. IsBlockBelow i bytes (text ++ more) base)
kept-push None bytes text more base within has = tt
kept-push (Some i) bytes text more base within has = record {
  below = has.below;
  has = λ o lt. has.has o lt ∙ sym (get_or_append_left text more 0 (512 * i + o) (omega (arith, has.below, within, lt)));
}

-- a later base
kept-rise : (index : Option ℕ) (bytes text : List ℕ) (base next : ℕ) → base ≤ next → IfSome index (λ i. IsBlockBelow i bytes text base) → IfSome index (λ i. IsBlockBelow i bytes text next)
kept-rise None bytes text base next le has = tt
kept-rise (Some i) bytes text base next le has = record { below = omega (arith, has.below, le); has = has.has }

-- ---- both

pub near-none : (near : Near) (text : List ℕ) (base : ℕ) → near.even.index ≡ None → near.odd.index ≡ None → IsNear near text base
near-none near text base even odd = record { even = kept-none near.even text base even; odd = kept-none near.odd text base odd }

pub near-push : (near : Near) (text more : List ℕ) (base : ℕ) → base ≤ length text → IsNear near text base → IsNear near (text ++ more) base
near-push near text more base within has = record {
  even = kept-push near.even.index near.even.bytes text more base within has.even;
  odd = kept-push near.odd.index near.odd.bytes text more base within has.odd;
}

pub near-rise : (near : Near) (text : List ℕ) (base next : ℕ) → base ≤ next → IsNear near text base → IsNear near text next
near-rise near text base next le has = record {
  even = kept-rise near.even.index near.even.bytes text base next le has.even;
  odd = kept-rise near.odd.index near.odd.bytes text base next le has.odd;
}
