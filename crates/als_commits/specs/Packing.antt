-- What a commit writes, as it is kept: heads, and the bytes of all values one behind another.
use Rattle.std.specs.Prelude.{ℕ, ◌+◌, ◌-◌, List, [], ◌∷◌, drop}
use Rattle.als_record.specs.declared.key.Key.{Key}
use Rattle.als_record.specs.Commits.{Write}
use Rattle.als_record.specs.KeptImages.{image_kept}
use Rattle.als_commits.specs.declared.head.Head.{Head}

abbrev pub key_in : Head → Key
key_in h = record { page = h.page; slot = h.slot }

-- how many bytes its value has
abbrev pub size_in : Head → ℕ
size_in h = h.first - 1

-- the write of a head, whose value these bytes begin with
abbrev pub write_at : Head → List ℕ → Write
write_at h values = record { key = key_in h; after = image_kept h.first values }

-- the writes of these heads and values
abbrev pub writes_packed : List Head → List ℕ → List Write
writes_packed [] values = []
writes_packed (h ∷ rest) values = write_at h values ∷ writes_packed rest (drop (size_in h) values)

-- how many bytes the values of these heads have
abbrev pub sizes : List Head → ℕ
sizes [] = 0
sizes (h ∷ rest) = size_in h + sizes rest
