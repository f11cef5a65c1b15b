-- The keys of a page.
use Rattle.std.specs.Prelude.{ℕ, List, [], ◌∷◌}
use Rattle.als_record.specs.declared.key.Key.{Key}

-- the key of a slot of a page
abbrev pub key_at : ℕ → ℕ → Key
key_at page slot = record { page = page; slot = slot }

-- the keys of all slots of a page
abbrev pub page_keys : ℕ → List Key
page_keys page =
    key_at page 0 ∷ key_at page 1 ∷ key_at page 2 ∷ key_at page 3 ∷ key_at page 4 ∷ key_at page 5 ∷ key_at page 6 ∷ key_at page 7
    ∷ key_at page 8 ∷ key_at page 9 ∷ key_at page 10 ∷ key_at page 11 ∷ key_at page 12 ∷ key_at page 13 ∷ key_at page 14 ∷ []
