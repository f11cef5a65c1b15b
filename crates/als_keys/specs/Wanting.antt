-- The keys that the body of a read names.
use Rattle.std.specs.Prelude.{◌≡◌, ℕ, ◌≤◌, nat_le, ◌&&◌, List, [], ◌∷◌, length, codes, Option, Some, None, is_some, option_map, option_and_then, if◌then◌else◌}
use Rattle.json.specs.Json.{Json, Items, no_items, item, document}
use Rattle.json.specs.Find.{at, get, as_number, as_array}
use Rattle.json.specs.Strict.{HasUniqueKeys}
use Rattle.als_record.specs.declared.key.Key.{Key}
use Rattle.als_keys.specs.Numbers.{number_of}

-- the whole number that a value is
abbrev pub natural_in : Json → Option ℕ
natural_in j = option_and_then number_of (as_number j)

-- the key of a page and a slot that fit their types
abbrev pub key_from : ℕ → ℕ → Option Key
key_from page slot = if nat_le page 4294967295 && nat_le slot 255 then Some (record { page = page; slot = slot }) else None

-- the key of an array of two numbers
abbrev pub key_in : Json → Option Key
key_in j =
    if is_some (at 2 j) then None
    else option_and_then (λ page. option_and_then (key_from page) (option_and_then natural_in (at 1 j))) (option_and_then natural_in (at 0 j))

-- the key of each item of an array, in order; none where one is no key
abbrev pub each_key : Items → Option (List Key)
each_key no_items = Some []
each_key (item j js) = option_and_then (λ key. option_map (λ rest. key ∷ rest) (each_key js)) (key_in j)

-- the keys of a value: those of its member `keys`
abbrev pub keys_in : Json → Option (List Key)
keys_in j = option_and_then (λ keys. option_and_then each_key (as_array keys)) (get (codes "keys") j)

-- the text is a JSON value in which no object has a name twice, and that value names these keys, at most 600 of them
pub record IsKeys (text : List ℕ) (keys : List Key) : Type 0 where
  pub value : Json
  pub document : document text ≡ Some value
  pub unique : HasUniqueKeys value
  pub says : keys_in value ≡ Some keys
  pub few : length keys ≤ 600
