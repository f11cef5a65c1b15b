-- Which keys a value names, worked by hand.
use Rattle.std.specs.Prelude.{◌≡◌, [], ◌∷◌, codes, Some, None, refl}
use Rattle.json.specs.Json.{Json, Items, number, array, object, no_items, item, no_members, member}
use Rattle.als_keys.specs.Wanting.{keys_in}

-- [P,S]
abbrev pair : Json → Json → Json
pair page slot = array (item page (item slot no_items))

-- {"keys":[..]}
abbrev named : Items → Json
named items = object (member (codes "keys") (array items) no_members)

two_row : keys_in (named (item (pair (number (codes "17")) (number (codes "3"))) (item (pair (number (codes "0")) (number (codes "14"))) no_items)))
    ≡ Some (record { page = 17; slot = 3 } ∷ record { page = 0; slot = 14 } ∷ [])
two_row = refl

none_row : keys_in (named no_items) ≡ Some []
none_row = refl

-- a key is two numbers, and its slot one of a byte
three_row : keys_in (named (item (array (item (number (codes "1")) (item (number (codes "2")) (item (number (codes "3")) no_items)))) no_items)) ≡ None
three_row = refl

large_row : keys_in (named (item (pair (number (codes "1")) (number (codes "256"))) no_items)) ≡ None
large_row = refl
