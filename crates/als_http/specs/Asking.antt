-- What a path asks for.
use Rattle.std.specs.Prelude.{ℕ, ◌+◌, ◌==◌, nat_le, ◌&&◌, Bool, List, take, drop, codes, bytes_eq, Option, Some, None, if◌then◌else◌}
use Rattle.std.specs.List.{position_from}
use Rattle.als_keys.specs.Numbers.{number_of}
use Rattle.als_http.specs.declared.asked.Asked.{Asked}
use Rattle.als_console.specs.declared.text.Text.TheVariants.{Page, Script, Style}
use Rattle.als_http.specs.declared.asked.Asked.TheVariants.{Value, Page as OnePage, Many, Status, Metrics, Health, Primary, Standby, Console, NoNumber, Nothing}

-- the key of these numbers, which have 32 bits each
abbrev pub key_asked : Option ℕ → Option ℕ → Asked
key_asked None slot = NoNumber
key_asked (Some page) None = NoNumber
key_asked (Some page) (Some slot) =
    if nat_le page 4294967295 && nat_le slot 4294967295
    then Value (record { page = page; slot = if nat_le slot 255 then slot else 255 }) else NoNumber

-- the page of this number, which has 32 bits
abbrev pub page_numbered : Option ℕ → Asked
page_numbered None = NoNumber
page_numbered (Some page) = if nat_le page 4294967295 then OnePage page else NoNumber

-- the numbers on both sides of a slash; or a page, where there is no slash
abbrev pub numbers_asked : List ℕ → Option ℕ → Asked
numbers_asked text None = page_numbered (number_of text)
numbers_asked text (Some i) = key_asked (number_of (take i text)) (number_of (drop (i + 1) text))

abbrev pub is_slash : ℕ → Bool
is_slash c = c == 47

-- what is asked for behind `/keys/`: the numbers on both sides of the first slash, or a page
unfoldable pub slot_asked : List ℕ → Asked
slot_asked text = numbers_asked text (position_from is_slash 0 text)

-- which text of the page a path asks for
unfoldable pub page_asked : List ℕ → Asked
page_asked path =
    if bytes_eq path (codes "/") then Console Page
    else (if bytes_eq path (codes "/page.js") then Console Script
    else (if bytes_eq path (codes "/page.css") then Console Style else Nothing))

-- what a path asks for that names a read of many keys, or else a text of the page
unfoldable pub read_asked : List ℕ → Asked
read_asked path = if bytes_eq path (codes "/read") then Many else page_asked path

-- what a path asks for that names a role of the node, or else a key or a text of the page
unfoldable pub role_asked : List ℕ → Asked
role_asked path =
    if bytes_eq path (codes "/primary") then Primary
    else (if bytes_eq path (codes "/standby") then Standby
    else (if bytes_eq (take 6 path) (codes "/keys/") then slot_asked (drop 6 path) else read_asked path))

unfoldable pub asked_by : List ℕ → Asked
asked_by path =
    if bytes_eq path (codes "/status") then Status
    else (if bytes_eq path (codes "/metrics") then Metrics
    else (if bytes_eq path (codes "/health") then Health else role_asked path))
