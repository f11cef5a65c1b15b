use Rattle.std.proofs.Common.{◌∙◌, ◌++◌, ◌∷◌, [], List, ℕ, ap}
use Rattle.std.proofs.lemmas.List.{replicate-append-replicate}
use Rattle.als_disk.specs.Store.{zeros}
use Rattle.als_disk.proofs.piece.zero_blocks.Goals as goal

pub loop-preserved : goal.loop-preserved
unfolding zeros
loop-preserved c = c.in_ok-push.ensures.items ∙ ap (λ (xs : List (List ℕ)). xs ++ zeros ∷ []) c.loop.invariant ∙ replicate-append-replicate c.loop.counter 1 zeros
