use Rattle.std.proofs.Common.{arith, ◌≡◌, ℕ, ◌+◌, ◌<◌, ◌++◌, [], ◌∷◌, List, Bool, true, false, length, get_or, take, drop, refl, sym, ap, subst, ◌∙◌, append_assoc, append-nil}
use Rattle.std.specs.Prelude.{nat_lt, cond}
use Rattle.std.proofs.lemmas.List.{drop_more, take_more, take-append-drop}
use Rattle.std.proofs.Math.Seq.{drop-length}
use Rattle.als_epochs.specs.HistoryLaws.{IsHistory-takes}
use Rattle.als_epochs.specs.Histories.{IsHistory, Takes}
use Rattle.als_ckpt.specs.Again.{seals_below}
use Rattle.als_rewind.proofs.control.seals_under.Goals as goal

-- the seals from one on, by whether it is reached
from_on : (bound : ℕ) (xs : List ℕ) (i : ℕ) (b : Bool) → i < length xs → b ≡ nat_lt (get_or xs i 0) bound
    → seals_below bound (drop i xs) ≡ cond b (get_or xs i 0 ∷ seals_below bound (drop (i + 1) xs)) []
from_on bound xs i b below is =
    ap (seals_below bound) (drop_more xs i 0 below) ∙ ap (λ (v : Bool). cond v (get_or xs i 0 ∷ seals_below bound (drop (i + 1) xs)) []) (sym is)

-- a history about one of its seals
parts : (xs : List ℕ) (i : ℕ) → i < length xs → xs ≡ take i xs ++ get_or xs i 0 ∷ drop (i + 1) xs
parts xs i below = sym (take-append-drop i xs) ∙ ap (λ (ys : List ℕ). take i xs ++ ys) (drop_more xs i 0 below)

takes_next : (xs ys front : List ℕ) (i : ℕ) → xs ≡ ys → i < length xs → front ≡ take i xs → IsHistory ys → Takes front (get_or xs i 0)
takes_next xs ys front i same below is history =
    rw is (IsHistory-takes (take i xs) (get_or xs i 0) (drop (i + 1) xs) xs (parts xs i below) (subst IsHistory (sym same) history))

pub returns-then-not-is_under : goal.returns-then-not-is_under
returns-then-not-is_under c =
    let xs = c.seals-seal-items.result.now in
    let i = c.loop-seal.seal-index in
    let bound = c.args.lsn.0 in
    let none : seals_below bound (drop i xs) ≡ [] = from_on bound xs i false c.loop-seal-test.true (sym c.if-not-is_under.true ∙ c.is_under.ensures) in
    sym (append-nil c.loop-seal.front) ∙ ap (λ (ys : List ℕ). c.loop-seal.front ++ ys) (sym none) ∙ sym c.loop-seal.invariant.told ∙ ap (seals_below bound) c.seals-seal-items.ensures

pub push-requires : goal.push-requires
push-requires c =
    takes_next c.seals-seal-items.result.now c.args.history.now c.loop-seal.front c.loop-seal.seal-index c.seals-seal-items.ensures c.loop-seal-test.true c.loop-seal.invariant.front c.epoch-epoch.ensures.facts

pub loop-seal-preserved : goal.loop-seal-preserved
loop-seal-preserved c =
    let xs = c.seals-seal-items.result.now in
    let i = c.loop-seal.seal-index in
    let x = get_or xs i 0 in
    let bound = c.args.lsn.0 in
    let more : seals_below bound (drop i xs) ≡ x ∷ seals_below bound (drop (i + 1) xs) = from_on bound xs i true c.loop-seal-test.true (sym c.if-not-is_under.false ∙ c.is_under.ensures) in
    record {
      told = rw c.push.ensures.value
          (c.loop-seal.invariant.told ∙ ap (λ (ys : List ℕ). c.loop-seal.front ++ ys) more ∙ sym (append_assoc c.loop-seal.front (x ∷ []) (seals_below bound (drop (i + 1) xs))));
      front = rw c.push.ensures.value (ap (λ (ys : List ℕ). ys ++ x ∷ []) c.loop-seal.invariant.front ∙ sym (take_more xs i 0 c.loop-seal-test.true));
    }

-- no seal is left behind the last one
at_end : (bound : ℕ) (xs front : List ℕ) (i : ℕ) → i ≡ length xs → seals_below bound xs ≡ front ++ seals_below bound (drop i xs) → front ≡ seals_below bound xs
at_end bound xs front i whole told =
    let none : seals_below bound (drop i xs) ≡ [] = ap (λ (n : ℕ). seals_below bound (drop n xs)) whole ∙ ap (seals_below bound) (drop-length xs) in
    sym (append-nil front) ∙ ap (λ (ys : List ℕ). front ++ ys) (sym none) ∙ sym told

pub returns : goal.returns
returns c =
    let bound = c.args.lsn.0 in
    at_end bound c.seals-seal-items.result.now c.loop-seal.front c.loop-seal.seal-index (omega (arith, c.loop-seal-test.false, c.loop-seal.auto.seal-index-end)) c.loop-seal.invariant.told ∙ ap (seals_below bound) c.seals-seal-items.ensures
