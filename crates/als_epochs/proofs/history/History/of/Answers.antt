use Rattle.std.proofs.Common.{◌≡◌, ℕ, ◌<◌, ◌+◌, ◌++◌, ◌∷◌, List, length, get_or, take, drop, map, sym, ap, ◌∙◌}
use Rattle.std.proofs.lemmas.List.{map-append, drop_more, take-append-drop}
use Rattle.als_record.specs.declared.lsn.Lsn.{Lsn}
use Rattle.als_epochs.specs.HistoryLaws.{IsHistory-takes}
use Rattle.als_epochs.proofs.history.History.of.Goals as goal

-- a list about one of its elements
parts : (xs : List Lsn) (i : ℕ) (d : Lsn) → i < length xs
    → map (λ (s : Lsn). s.0) xs ≡ map (λ (s : Lsn). s.0) (take i xs) ++ (get_or xs i d).0 ∷ map (λ (s : Lsn). s.0) (drop (i + 1) xs)
parts xs i d below =
    ap (map (λ (s : Lsn). s.0)) (sym (take-append-drop i xs) ∙ ap (λ (ys : List Lsn). take i xs ++ ys) (drop_more xs i d below))
    ∙ map-append (λ (s : Lsn). s.0) (take i xs) (get_or xs i d ∷ drop (i + 1) xs)

pub returns-then-not-takes-clause-only : goal.returns-then-not-takes-clause-only
returns-then-not-takes-clause-only c = λ history.
    let xs = c.args.seals.now in
    let i = c.loop-seal.seal-index in
    let split = parts xs i (record { 0 = 0 }) c.loop-seal-test.true in
    absurd (c.if-not-takes.ensures (rw c.loop-seal.invariant (IsHistory-takes (map (λ (s : Lsn). s.0) (take i xs)) (get_or xs i (record { 0 = 0 })).0 (map (λ (s : Lsn). s.0) (drop (i + 1) xs)) (map (λ (s : Lsn). s.0) xs) split history)))
