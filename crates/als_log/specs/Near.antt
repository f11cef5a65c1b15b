-- The blocks of a text that were read last.
use Rattle.std.specs.Prelude.{◌≡◌, ℕ, ◌<◌, ◌≤◌, ◌+◌, ◌*◌, ◌/◌, ◌%◌, ◌==◌, List, slice_index, IfSome, if◌then◌else◌}
use Rattle.als_log.specs.declared.kept_block.KeptBlock.{KeptBlock}
use Rattle.als_log.specs.declared.near.Near.{Near}

-- the bytes of a text's block that ends at or below a base
pub record IsBlockBelow (i : ℕ) (bytes text : List ℕ) (base : ℕ) : Type 0 where
  pub below : 512 * i + 512 ≤ base
  pub has : (o : ℕ) → o < 512 → slice_index bytes o ≡ slice_index text (512 * i + o)

-- what is kept of a text is one of its blocks below a base, or none
abbrev pub IsKept : KeptBlock → List ℕ → ℕ → Type 0
IsKept kept text base = IfSome kept.index (λ i. IsBlockBelow i kept.bytes text base)

-- both that are kept are
pub record IsNear (near : Near) (text : List ℕ) (base : ℕ) : Type 0 where
  pub even : IsKept near.even text base
  pub odd : IsKept near.odd text base

-- the bytes that are kept where those of a block would be
abbrev pub block_of : Near → ℕ → List ℕ
block_of near i = if i % 2 == 0 then near.even.bytes else near.odd.bytes

-- the byte of a text at an offset is at hand: memory has it, or its block is kept
abbrev pub IsAtHand : Near → List ℕ → ℕ → ℕ → Type 0
IsAtHand near text base at = at < base → IsBlockBelow (at / 512) (block_of near (at / 512)) text base
