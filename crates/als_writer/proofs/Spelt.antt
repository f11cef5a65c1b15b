-- The moves of writes, one after another, and those of a transaction that prepares.
use Rattle.std.proofs.Common.{◌≡◌, ℕ, ◌+◌, ◌<◌, List, [], ◌∷◌, ◌++◌, length, map, take, get_or, refl, sym, ap, ◌∙◌}
use Rattle.std.proofs.lemmas.List.{take_more, map-append}
use Rattle.als_record.specs.declared.record.Record.{Record}
use Rattle.als_record.specs.Commits.{Write}
use Rattle.als_writing.specs.Writing.{Writes, Prepares, moved, prepared}

pub take-writes : (ws : List Write) (i : ℕ) (w : Write) → i < length ws → w ≡ get_or ws i w → map Writes (take (i + 1) ws) ≡ map Writes (take i ws) ++ Writes w ∷ []
take-writes ws i w lt e = ap (map Writes) (take_more ws i w lt ∙ ap (λ x. take i ws ++ x ∷ []) (sym e)) ∙ map-append Writes (take i ws) (w ∷ [])

pub whole-prepared : (log : List Record) (t : ℕ) (ws : List Write) → moved log t (map Writes ws ++ Prepares ∷ []) ≡ prepared log t ws
unfolding prepared
whole-prepared log t ws = refl
