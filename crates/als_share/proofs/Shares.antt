-- Shares by which nothing was done.
use Rattle.std.proofs.Common.{◌≡◌, ℕ, List, [], ◌∷◌, ◌++◌}
use Rattle.als_engine.specs.Tally.{no_events}
use Rattle.als_share.specs.Ledgers.{AreNew}

pub new-more : (xss : List (List ℕ)) (xs : List ℕ) → AreNew xss → xs ≡ no_events → AreNew (xss ++ xs ∷ [])
new-more [] xs h e = (e, tt)
new-more (ys ∷ xss) xs h e = (h.0, new-more xss xs h.1 e)
