-- What the file says that makes a folder a primary's.
use Rattle.std.specs.Prelude.{ℕ, List, [], ◌∷◌, ◌++◌, codes}
use Rattle.std.specs.Fmt.{decimal}

-- its one line: the epoch that the primary writes
unfoldable pub role_text : ℕ → List ℕ
role_text epoch = codes "primary epoch=" ++ decimal epoch ++ 10 ∷ []
