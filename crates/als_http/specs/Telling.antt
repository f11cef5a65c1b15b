-- Which request it is, by its method, its path and the LSN that it names.
use Rattle.std.specs.Prelude.{ℕ, Bool, true, false, ◌||◌, List, [], ◌∷◌, codes, bytes_eq, nat_le, Option, Some, None, Result, Ok, Err, if◌then◌else◌}
use Rattle.http_header.specs.FieldValue.{FieldValue}
use Rattle.http_header.specs.HeaderMap.{get_all}
use Rattle.http_uri.specs.Uri.{uri_path}
use Rattle.http.specs.declared.request.Parts.{Parts}
use Rattle.als_keys.specs.Numbers.{number_of}
use Rattle.als_http.specs.Asking.{asked_by}
use Rattle.als_http.specs.Hosts.{is_own}
use Rattle.als_http.specs.declared.hosts.Hosts.{Hosts}
use Rattle.als_http.specs.declared.asked.Asked.{Asked}
use Rattle.als_http.specs.declared.asked.Asked.TheVariants as asked
use Rattle.als_http.specs.declared.query.Query.{Query}
use Rattle.als_http.specs.declared.query.Query.TheVariants.{Value, Page, Many, Status, Metrics, Health, Primary, Standby, Console, Refused}
use Rattle.als_http.specs.declared.query.Wrong.TheVariants.{Path, Method, Read, Number, Lsn, Wait, Host}
use Rattle.als_http.specs.declared.query.Wrong.{Wrong}
use Rattle.als_record.specs.declared.lsn.Lsn.{Lsn as AnyLsn}

-- the number that a field names: 0 without one, none where it is no number or there are two
unfoldable pub named : List FieldValue → Option ℕ
named [] = Some 0
named (v ∷ []) = number_of v.bytes
named (v ∷ w ∷ rest) = None

-- the LSN that a read is to have at least, where it names that well and for how long it may wait: 60 seconds at most
unfoldable pub least_of : Option ℕ → Option ℕ → Result AnyLsn Wrong
least_of None wait = Err Lsn
least_of (Some lsn) None = Err Wait
least_of (Some lsn) (Some wait) = if nat_le wait 60 then Ok (record { 0 = lsn }) else Err Wait

-- what is asked for with this LSN
unfoldable pub told : Asked → Result AnyLsn Wrong → Query
told (asked.Value key) (Err why) = Refused why
told (asked.Value key) (Ok lsn) = Value key lsn
told (asked.Page page) (Err why) = Refused why
told (asked.Page page) (Ok lsn) = Page page lsn
told asked.Many (Err why) = Refused why
told asked.Many (Ok lsn) = Many lsn
told asked.Status lsn = Status
told asked.Metrics lsn = Metrics
told asked.Health lsn = Health
told asked.Primary lsn = Primary
told asked.Standby lsn = Standby
told (asked.Console text) lsn = Console text
told asked.NoNumber lsn = Refused Number
told asked.Nothing lsn = Refused Path

-- the body names the keys
abbrev pub is_many : Asked → Bool
is_many asked.Many = true
is_many a = false

-- by the method of what is asked for, or none: a body that names keys comes by POST
unfoldable pub allowed : Bool → List ℕ → Query → Query
allowed many method q =
    if many then (if bytes_eq method (codes "POST") then q else Refused Read)
    else (if bytes_eq method (codes "GET") || bytes_eq method (codes "HEAD") then q else Refused Method)

abbrev pub query_by : List ℕ → List ℕ → List FieldValue → List FieldValue → Query
query_by method path lsn wait = allowed (is_many (asked_by path)) method (told (asked_by path) (least_of (named lsn) (named wait)))

-- the query, where its host is the node's own
unfoldable pub directed : Bool → Query → Query
directed own q = if own then q else Refused Host

-- what the head of a request asks a node for, which has these hosts
abbrev pub query_of : Hosts → Parts → Query
query_of hosts p =
    directed (is_own hosts (get_all p.headers (codes "host")))
    (query_by p.method (uri_path p.uri) (get_all p.headers (codes "als-at-least")) (get_all p.headers (codes "als-wait")))
