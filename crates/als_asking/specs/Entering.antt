-- Which request asks for commits, and who may ask.
use Rattle.std.specs.Prelude.{ℕ, Bool, ◌||◌, true, false, List, [], ◌∷◌, take, drop, codes, bytes_eq, Option, Some, None, if◌then◌else◌}
use Rattle.http_header.specs.FieldValue.{FieldValue}
use Rattle.http_header.specs.HeaderMap.{get_all}
use Rattle.http_uri.specs.Uri.{uri_path}
use Rattle.http.specs.declared.request.Parts.{Parts}
use Rattle.als_http.specs.Hosts.{is_own}
use Rattle.als_http.specs.declared.hosts.Hosts.{Hosts}
use Rattle.als_asking.specs.declared.denied.Denied.{Denied}
use Rattle.als_asking.specs.declared.denied.Denied.TheVariants.{Host, Method, NoRead, Page, NoToken, OtherToken}
use Rattle.als_asking.specs.declared.entry.Entry.{Entry}
use Rattle.als_asking.specs.declared.entry.Entry.TheVariants as entry
use Rattle.als_asking.specs.declared.guard.Guard.{Guard}
use Rattle.als_asking.specs.declared.guard.Guard.TheVariants.{Loopback, Token}

-- what stands behind the scheme of an authorization
abbrev pub bearer : List ℕ → Option (List ℕ)
bearer text = if bytes_eq (take 7 text) (codes "Bearer ") then Some (drop 7 text) else None

-- the token of these fields: none where there is no field or more than one
unfoldable pub token_in : List FieldValue → Option (List ℕ)
token_in [] = None
token_in (v ∷ []) = bearer v.bytes
token_in (v ∷ w ∷ rest) = None

-- why a request with this token is denied, where this other one is wanted; none: it is taken
abbrev pub denied_by : List ℕ → Option (List ℕ) → Option Denied
denied_by token None = Some NoToken
denied_by token (Some given) = if bytes_eq given token then None else Some OtherToken

unfoldable pub guarded : Guard → Option (List ℕ) → Option Denied
guarded Loopback given = None
guarded (Token token) given = denied_by token.items given

-- whether there is a field
abbrev pub is_there : List FieldValue → Bool
is_there [] = false
is_there (v ∷ rest) = true

-- the way of a request for this that is denied for that, or for nothing
abbrev pub way : Entry → Option Denied → Entry
way to None = to
way to (Some why) = entry.Denied why

-- the way of a request for a change: its host is the node's own, its method is POST, no page of a browser asks, and it is not denied
unfoldable pub entered : Entry → Bool → List ℕ → Bool → Option Denied → Entry
entered to own method from_page denial =
    if own then (if bytes_eq method (codes "POST") then (if from_page then entry.Denied Page else way to denial) else entry.Denied Method)
    else entry.Denied Host

-- which way a request for a change goes
abbrev pub way_of : Entry → Guard → Hosts → Parts → Entry
way_of to guard hosts p =
    entered to (is_own hosts (get_all p.headers (codes "host"))) p.method (is_there (get_all p.headers (codes "origin"))) (guarded guard (token_in (get_all p.headers (codes "authorization"))))

-- the way of a request for what is in doubt: its host is the node's own, and its method reads
unfoldable pub looked : Bool → List ℕ → Entry
looked own method =
    if own then (if bytes_eq method (codes "GET") || bytes_eq method (codes "HEAD") then entry.InDoubt else entry.Denied NoRead) else entry.Denied Host

-- which way a request with this head goes, by who may commit and by the hosts of the node
abbrev pub entry_of : Guard → Hosts → Parts → Entry
entry_of guard hosts p =
    if bytes_eq (uri_path p.uri) (codes "/commit") then way_of entry.Commits guard hosts p
    else if bytes_eq (uri_path p.uri) (codes "/prepare") then way_of entry.Prepares guard hosts p
    else if bytes_eq (uri_path p.uri) (codes "/decide") then way_of entry.Decides guard hosts p
    else if bytes_eq (uri_path p.uri) (codes "/in-doubt") then looked (is_own hosts (get_all p.headers (codes "host"))) p.method
    else entry.Reads
