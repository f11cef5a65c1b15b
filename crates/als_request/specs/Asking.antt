-- What a JSON value asks for.
use Rattle.std.specs.Prelude.{◌≡◌, ℕ, ◌+◌, ◌-◌, ◌*◌, ◌==◌, ◌&&◌, nat_le, Bool, true, false, List, [], ◌∷◌, length, fold, codes, Option, Some, None, is_some, option_map, option_and_then, Result, Ok, Err, if◌then◌else◌}
use Rattle.json.specs.Json.{Json, Items, no_items, item, Members, document}
use Rattle.json.specs.Find.{at, get, is_null, as_str, as_number, as_array, as_object}
use Rattle.json.specs.Strict.{keys, HasUniqueKeys}
use Rattle.hex.specs.Hex.{decode_of}
use Rattle.als_record.specs.declared.key.Key.{Key}
use Rattle.als_record.specs.Spelling.{Image}
use Rattle.als_record.specs.Commits.{Write}
use Rattle.als_writer.specs.declared.ask.Ask.{Ask}
use Rattle.als_writer.specs.declared.ask.Ask.TheVariants.{Is, Unchanged}
use Rattle.als_writer.specs.declared.transaction.Transaction.{Transaction}

abbrev pub is_digit : ℕ → Bool
is_digit c = nat_le 48 c && nat_le c 57

-- a number with one more digit; none where that is no digit, or past 64 bits
abbrev pub with_digit : Option ℕ → ℕ → Option ℕ
with_digit None c = None
with_digit (Some n) c = if is_digit c && nat_le (10 * n + (c - 48)) 18446744073709551615 then Some (10 * n + (c - 48)) else None

-- the number of at most 64 bits that these digits spell
abbrev pub number_of : List ℕ → Option ℕ
number_of text = if length text == 0 then None else fold with_digit (Some 0) text

-- the whole number that a value is
abbrev pub natural_in : Json → Option ℕ
natural_in j = option_and_then number_of (as_number j)

-- the key of a page and a slot that fit their types
abbrev pub key_from : ℕ → ℕ → Option Key
key_from page slot = if nat_le page 4294967295 && nat_le slot 255 then Some (record { page = page; slot = slot }) else None

-- the key of an array of two numbers
abbrev pub key_in : Json → Option Key
key_in j =
    if is_some (at 2 j) then None
    else option_and_then (λ page. option_and_then (key_from page) (option_and_then natural_in (at 1 j))) (option_and_then natural_in (at 0 j))

abbrev pub ok_of : {E : Type 0} → Result (List ℕ) E → Option (List ℕ)
ok_of (Ok bytes) = Some bytes
ok_of (Err e) = None

-- the value of at most 62 hexadecimal digits
abbrev pub value_of : List ℕ → Option Image
value_of digits = if nat_le (length digits) 62 then option_map (λ bytes. Some (record { items = bytes })) (ok_of (decode_of digits)) else None

-- the image that a value is: null is no value
abbrev pub image_in : Json → Option Image
image_in j = if is_null j then Some None else option_and_then value_of (as_str j)

-- how many members an object has, 0 where it is none
abbrev pub members_in : Option Members → ℕ
members_in None = 0
members_in (Some ms) = length (keys ms)

abbrev pub member_count : Json → ℕ
member_count j = members_in (as_object j)

-- what is asked of a key: an image, or that no commit above an LSN wrote it
abbrev pub asked : Key → Option Json → Option Json → Option Ask
asked key (Some value) since = option_map (Is key) (image_in value)
asked key None since = option_map (λ lsn. Unchanged key (record { 0 = lsn })) (option_and_then natural_in since)

-- one comparison: a key, and what is asked of it
abbrev pub ask_in : Json → Option Ask
ask_in j =
    if member_count j == 2 then option_and_then (λ key. asked key (get (codes "is") j) (get (codes "unchanged_since") j)) (option_and_then key_in (get (codes "key") j))
    else None

-- one set: a key, and the image that it gets
abbrev pub set_in : Json → Option Write
set_in j =
    if member_count j == 2 then option_and_then (λ key. option_map (λ image. record { key = key; after = image }) (option_and_then image_in (get (codes "to") j))) (option_and_then key_in (get (codes "key") j))
    else None

-- each item of an array, read in order; none where one can't be read
abbrev pub each : {A : Type 0} → (Json → Option A) → Items → Option (List A)
each f no_items = Some []
each f (item j js) = option_and_then (λ a. option_map (λ rest. a ∷ rest) (each f js)) (f j)

-- the items of a value that is an array
abbrev pub all_in : {A : Type 0} → (Json → Option A) → Json → Option (List A)
all_in f j = option_and_then (each f) (as_array j)

-- the comparisons, none where there is no member for them
abbrev pub asks_in : Option Json → Option (List Ask)
asks_in None = Some []
asks_in (Some j) = all_in ask_in j

-- how many members a transaction has
abbrev pub count_with : Option Json → ℕ
count_with None = 1
count_with (Some j) = 2

-- a transaction: what is asked, and what is set; so many members are beside them
abbrev pub transaction_beside : ℕ → Json → Option (List Ask × List Write)
transaction_beside extra j =
    if member_count j == count_with (get (codes "if") j) + extra
    then option_and_then (λ asks. option_map (λ sets. (asks, sets)) (option_and_then (all_in set_in) (get (codes "set") j))) (asks_in (get (codes "if") j))
    else None

-- a transaction, and nothing beside it
abbrev pub transaction_in : Json → Option (List Ask × List Write)
transaction_in j = transaction_beside 0 j

-- the text is a JSON value in which no object has a name twice
pub record IsSaid (text : List ℕ) (value : Json) : Type 0 where
  pub document : document text ≡ Some value
  pub unique : HasUniqueKeys value

-- the text is such a value, and that value says this transaction
pub record IsRead (text : List ℕ) (t : Transaction) : Type 0 where
  pub value : Json
  pub said : IsSaid text value
  pub says : transaction_in value ≡ Some (t.asks.items, t.sets.items)
