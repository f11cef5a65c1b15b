-- A checkpoint on its way.
use Rattle.std.specs.Prelude.{◌≡◌, Option, IsSomeAnd}
use Rattle.als_ckpt_codec.specs.declared.checkpoint.Checkpoint.{Checkpoint}
use Rattle.als_ckpt.specs.Regions.{Begun}
use Rattle.als_engine.specs.Machine.{Machine}

-- a checkpoint of this content is begun
abbrev pub IsOf : Checkpoint → Option Begun → Type 0
IsOf c begun = IsSomeAnd begun (λ b. b.checkpoint ≡ c)

-- the log and the pages are as they were, and a checkpoint that is begun still is, with its content
pub record Builds (old new : Machine) : Type 0 where
  pub log : new.held.log ≡ old.held.log
  pub pool : new.held.pool ≡ old.held.pool
  pub begun : (c : Checkpoint) → IsOf c old.held.begun → IsOf c new.held.begun
