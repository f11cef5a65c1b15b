-- What a guard asks for.
use Rattle.std.specs.Prelude.{ℕ, List, Option, Some, None}
use Rattle.als_asking.specs.declared.guard.Guard.{Guard}
use Rattle.als_asking.specs.declared.guard.Guard.TheVariants.{Loopback, Token}

-- the token that who commits has to bring, if it asks for one
abbrev pub token_of : Guard → Option (List ℕ)
token_of Loopback = None
token_of (Token bytes) = Some bytes.items
