use Rattle.std.proofs.Common.{◌<◌, ℕ, get_or}
use Rattle.als_callers.specs.declared.block.Block.{Block}
use Rattle.als_callers.specs.Members.{Has}
use Rattle.als_callers.proofs.allowed.has_any.Given as goal

-- no block before this one has the address
abbrev pub invariant-loop-block : goal.invariant-loop-block
invariant-loop-block l = (k : ℕ) → k < l.block-index → (d : Block) → Has (get_or l.blocks k d) l.peer → ⊥
