-- Fronts of a transaction: some of its updates, all of them with the commit, or the whole.
use Rattle.std.proofs.Common.{◌≡◌, ℕ, zero, suc, List, [], ◌∷◌, ◌++◌, map, take, refl, ap}
use Rattle.als_record.specs.declared.record.Record.{Record}
use Rattle.als_record.specs.Commits.{Write}
use Rattle.als_writing.specs.Writing.{Move, Writes, Commits, Ends, Prepares, record_for, moved}

-- a front of the records are those of a front of the moves
pub take-moved : (k : ℕ) (log : List Record) (t : ℕ) (moves : List Move) → take k (moved log t moves) ≡ moved log t (take k moves)
unfolding moved
take-moved zero log t moves = refl
take-moved (suc k) log t [] = refl
take-moved (suc k) log t (move ∷ rest) = ap (λ us. record_for log t move ∷ us) (take-moved k (log ++ record_for log t move ∷ []) t rest)

-- what holds of each front of the writes, with the commit, and with the end, holds of each front of a transaction
pub fronts : (P : List Move → Type 0) (k : ℕ) (writes : List Write) → ((j : ℕ) → P (map Writes (take j writes))) → P (map Writes writes ++ Commits ∷ []) → P (map Writes writes ++ Commits ∷ Ends ∷ []) → P (take k (map Writes writes ++ Commits ∷ Ends ∷ []))
fronts P zero writes some commit all = some zero
fronts P (suc zero) [] some commit all = commit
fronts P (suc (suc zero)) [] some commit all = all
fronts P (suc (suc (suc k))) [] some commit all = all
fronts P (suc k) (w ∷ rest) some commit all = fronts (λ moves. P (Writes w ∷ moves)) k rest (λ j. some (suc j)) commit all

-- the same of one that prepares
pub fronts_prepared : (P : List Move → Type 0) (k : ℕ) (writes : List Write) → ((j : ℕ) → P (map Writes (take j writes))) → P (map Writes writes ++ Prepares ∷ []) → P (take k (map Writes writes ++ Prepares ∷ []))
fronts_prepared P zero writes some all = some zero
fronts_prepared P (suc zero) [] some all = all
fronts_prepared P (suc (suc k)) [] some all = all
fronts_prepared P (suc k) (w ∷ rest) some all = fronts_prepared (λ moves. P (Writes w ∷ moves)) k rest (λ j. some (suc j)) all
