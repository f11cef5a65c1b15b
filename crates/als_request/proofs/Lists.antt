-- Members and items of a JSON value that were read.
use Rattle.std.specs.Prelude.{◌≡◌, ℕ, suc, List, [], ◌∷◌, ◌++◌, length, map, drop, Option, Some, None, option_map, option_and_then}
use Rattle.std.specs.Borrow.{Bor}
use Rattle.std.proofs.Common.{refl, sym, ap, ◌∙◌}
use Rattle.json.specs.Json.{Json, Items}
use Rattle.json.specs.Value.{items_of, members_of}
use Rattle.json.specs.Strict.{keys}
use Rattle.als_request.specs.Asking.{each}

-- an object has as many keys as members
pub keys_count : {A : Type 0} (f : A → Bor (List ℕ) × Json) (xs : List A) → length (keys (members_of (map f xs))) ≡ length xs
keys_count f [] = refl
keys_count f (x ∷ xs) = ap suc (keys_count f xs)
