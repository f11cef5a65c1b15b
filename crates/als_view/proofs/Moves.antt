-- One commit after another moves from the queue to the publisher.
use Rattle.std.proofs.Common.{ℕ, ◌+◌, List, ◌++◌, take, drop, refl, sym, ap, ◌∙◌, arith, append-nil, append_assoc, take-add}
use Rattle.std.proofs.lemmas.List.{drop-drop}
use Rattle.als_record.specs.Commits.{Commit}
use Rattle.als_view.specs.Moving.{MovesFirst}

-- none has moved yet
pub moves_none : (all waiting : List Commit) → MovesFirst 0 0 all waiting all waiting
moves_none all waiting = record { few = omega arith; all_are = sym (append-nil all); left = refl }

-- and one more
pub moves_more : (n : ℕ) (all waiting mid_all mid_waiting next_all next_waiting : List Commit) → MovesFirst n n all waiting mid_all mid_waiting → MovesFirst 1 1 mid_all mid_waiting next_all next_waiting → MovesFirst (n + 1) (n + 1) all waiting next_all next_waiting
moves_more n all waiting mid_all mid_waiting next_all next_waiting before now = record {
  few = omega arith;
  all_are = now.all_are ∙ ap (λ (cs : List Commit). cs ++ take 1 mid_waiting) before.all_are ∙ ap (λ (cs : List Commit). (all ++ take n waiting) ++ take 1 cs) before.left
      ∙ append_assoc all (take n waiting) (take 1 (drop n waiting)) ∙ ap (λ (cs : List Commit). all ++ cs) (sym (take-add n 1 waiting));
  left = now.left ∙ ap (drop 1) before.left ∙ drop-drop 1 n waiting;
}
