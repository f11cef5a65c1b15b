-- Laws of a block's head.
use Rattle.std.proofs.Common.{◌≡◌, ℕ, List, ◌∷◌, ◌++◌, replicate, ap, ◌∙◌}
use Rattle.std.specs.Int.{w32, w64, to_be_bytes}
use Rattle.als_page.specs.Block.{head_bytes}

-- a head by its parts
pub head_bytes-parts : (a b c : List ℕ) (lsn id : ℕ) → a ≡ to_be_bytes w64 lsn → b ≡ to_be_bytes w32 id → c ≡ 0 ∷ 1 ∷ replicate 18 0
    → a ++ (b ++ c) ≡ head_bytes lsn id
unfolding head_bytes
head_bytes-parts a b c lsn id ea eb ec =
    ap (λ xs. xs ++ (b ++ c)) ea ∙ ap (λ xs. to_be_bytes w64 lsn ++ (xs ++ c)) eb ∙ ap (λ xs. to_be_bytes w64 lsn ++ (to_be_bytes w32 id ++ xs)) ec
