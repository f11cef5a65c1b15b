-- The logs of the epochs: one text each, and the seals at which they part.
use Rattle.std.specs.Prelude.{◌≡◌, ℕ, suc, List, [], ◌∷◌, take}
use Rattle.als_epochs.specs.Histories.{RisesFrom}

-- The text of an epoch has that of the epoch before it below their seal. `texts 0` is the text of the first epoch, and the seals
-- are those of all takeovers, in order.
abbrev pub AgreeBelow : (ℕ → List ℕ) → List ℕ → Type 0
AgreeBelow texts [] = Unit {0}
AgreeBelow texts (seal ∷ seals) = (take seal (texts 1) ≡ take seal (texts 0)) × AgreeBelow (λ e. texts (suc e)) seals

-- the same, where no seal is below the one before it
pub record AreEpochs (texts : ℕ → List ℕ) (seals : List ℕ) : Type 0 where
  pub rising : RisesFrom 0 seals
  pub agree : AgreeBelow texts seals
