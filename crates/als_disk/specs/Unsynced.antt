-- The contents that a block was given since the last sync.
use Rattle.std.specs.Prelude.{ℕ, List, [], ◌∷◌, ◌++◌}
use Rattle.als_disk.specs.declared.unsynced.Unsynced.{Unsynced}

-- them, oldest first
abbrev pub contents : Unsynced → List (List ℕ)
contents writes = writes.earlier.items ++ writes.last ∷ []
