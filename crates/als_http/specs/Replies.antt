-- What a query is replied, and what of that a response shows.
use Rattle.std.specs.Prelude.{◌≡◌, ℕ, Bool, List, [], ◌∷◌, ◌++◌, ◌⊎◌, codes, decimal, Option, IfSome, Some, if◌then◌else◌}
use Rattle.http1.specs.Fields.{Header}
use Rattle.http_server.specs.declared.response.Response.{Response}
use Rattle.http_server.specs.Response.{IsResponse, fields_of}
use Rattle.als_record.specs.declared.key.Key.{Key}
use Rattle.als_record.specs.declared.lsn.Lsn.{Lsn as AnyLsn}
use Rattle.als_keys.specs.Pages.{page_keys}
use Rattle.als_keys.specs.Wanting.{IsKeys}
use Rattle.als_view.specs.Entries.{Begins}
use Rattle.als_view.specs.Many.{is_key}
use Rattle.als_view.specs.Views.{known_to, pages_of, IsSameReader}
use Rattle.als_view.specs.declared.reader.Reader.{Reader}
use Rattle.json.specs.Print.{print}
use Rattle.als_report.specs.Texts.{value_tokens, many_tokens, status_tokens, health_tokens, primary_flag_tokens, standby_flag_tokens, error_tokens, why_unread}
use Rattle.als_report.specs.Health.{is_healthy, is_primary, is_standby}
use Rattle.als_report.specs.declared.report.Report.{Report}
use Rattle.als_report.specs.Reading.{IsRead, AreRead, IsUnread, has_all, count_in}
use Rattle.als_report.specs.declared.unread.Unread.TheVariants.{Warming, Stopped, Older, NoSuchKey, Memory}
use Rattle.als_http.specs.declared.query.Query.{Query}
use Rattle.als_http.specs.declared.query.Query.TheVariants as query
use Rattle.als_http.specs.declared.query.Wrong.{Wrong}
use Rattle.als_http.specs.declared.query.Wrong.TheVariants.{Path, Method, Read, Number, Body, Lsn, Wait, Host}
use Rattle.als_http.specs.declared.reply.Reply.{Reply}
use Rattle.als_console.specs.Texts.{text_of, type_of as type_of_text, policy}
use Rattle.als_http.specs.declared.reply.Reply.TheVariants.{Value, Many, Unread, Status, Metrics, Health, Primary, Standby, Console, Refused}

-- the status by which a load balancer is told that something is so
abbrev pub status_of_flag : Bool → ℕ
status_of_flag flag = if flag then 200 else 503

abbrev pub status_of : Reply → ℕ
status_of (Value a) = 200
status_of (Many a) = 200
status_of (Unread Warming) = 503
status_of (Unread Stopped) = 503
status_of (Unread (Older lsn)) = 503
status_of (Unread NoSuchKey) = 404
status_of (Unread Memory) = 503
status_of (Status r n) = 200
status_of (Metrics r n) = 200
status_of (Health r n) = status_of_flag (is_healthy r n)
status_of (Primary r) = status_of_flag (is_primary r)
status_of (Standby r n) = status_of_flag (is_standby r n)
status_of (Console t) = 200
status_of (Refused Path) = 404
status_of (Refused Method) = 405
status_of (Refused Read) = 405
status_of (Refused Number) = 400
status_of (Refused Body) = 400
status_of (Refused Lsn) = 400
status_of (Refused Wait) = 400
status_of (Refused Host) = 421

-- the methods that are answered, where another one was asked with
abbrev pub fields_of_wrong : Wrong → List Header
fields_of_wrong Path = []
fields_of_wrong Method = (codes "allow", codes "GET, HEAD") ∷ []
fields_of_wrong Read = (codes "allow", codes "POST") ∷ []
fields_of_wrong Number = []
fields_of_wrong Body = []
fields_of_wrong Lsn = []
fields_of_wrong Wait = []
fields_of_wrong Host = []

-- what is wrong with a request, in words
abbrev pub why_wrong : Wrong → List ℕ
why_wrong Path = codes "no such path: /, /keys/P/S, /keys/P, /read, /status, /metrics, /health, /primary, /standby, and /in-doubt of a primary"
why_wrong Method = codes "GET and HEAD are answered, POST of /read, and POST of /commit, /prepare and /decide by a primary"
why_wrong Read = codes "keys that a body names are read by POST"
why_wrong Number = codes "a page and a slot are decimal numbers below 2^32"
why_wrong Body = codes "a body names keys: {\"keys\":[[P,S],..]}, at most 600 of them"
why_wrong Lsn = codes "Als-At-Least is one decimal number below 2^64"
why_wrong Wait = codes "Als-Wait is one decimal number of seconds, at most 60"
why_wrong Host = codes "this node has no such host: localhost, 127.0.0.1, [::1]"

-- what a browser may load for the page
abbrev pub policy_field : Header
policy_field = (codes "content-security-policy", policy)

-- a browser takes each text for what it is said to be
abbrev pub options_field : Header
options_field = (codes "x-content-type-options", codes "nosniff")

-- a browser tells nobody that it comes from the page
abbrev pub referrer_field : Header
referrer_field = (codes "referrer-policy", codes "no-referrer")

abbrev pub page_fields : List Header
page_fields = policy_field ∷ options_field ∷ referrer_field ∷ []

-- the tag of an answer: the LSN of its last commit, in quotes
abbrev pub tag_of : AnyLsn → List ℕ
tag_of lsn = codes "\"" ++ (decimal lsn.0 ++ codes "\"")

-- by which a client asks for no older answer, and compares two
abbrev pub read_fields : AnyLsn → List Header
read_fields lsn = (codes "als-lsn", decimal lsn.0) ∷ (codes "etag", tag_of lsn) ∷ []

-- the header fields beside those of every reply
abbrev pub own_fields : Reply → List Header
own_fields (Value a) = read_fields a.lsn
own_fields (Many a) = read_fields a.lsn
own_fields (Unread e) = []
own_fields (Status r n) = []
own_fields (Metrics r n) = []
own_fields (Health r n) = []
own_fields (Primary r) = []
own_fields (Standby r n) = []
own_fields (Console t) = page_fields
own_fields (Refused w) = fields_of_wrong w

-- what its text is
abbrev pub type_of : Reply → List ℕ
type_of (Value a) = codes "application/json"
type_of (Many a) = codes "application/json"
type_of (Unread e) = codes "application/json"
type_of (Status r n) = codes "application/json"
type_of (Metrics r n) = codes "text/plain; version=0.0.4"
type_of (Health r n) = codes "application/json"
type_of (Primary r) = codes "application/json"
type_of (Standby r n) = codes "application/json"
type_of (Console t) = type_of_text t
type_of (Refused w) = codes "application/json"

-- nobody may keep an answer: a later one has more commits
abbrev pub fields_for : Reply → List Header
fields_for reply = (codes "content-type", type_of reply) ∷ (codes "cache-control", codes "no-store") ∷ own_fields reply

-- the bytes of its text; those of metrics are only tested
unfoldable pub HasText : Reply → List ℕ → Type 0
HasText (Value a) text = text ≡ print (value_tokens a)
HasText (Many a) text = text ≡ print (many_tokens a)
HasText (Unread e) text = text ≡ print (error_tokens (why_unread e))
HasText (Status r n) text = text ≡ print (status_tokens r n)
HasText (Metrics r n) text = Unit {0}
HasText (Health r n) text = text ≡ print (health_tokens (is_healthy r n))
HasText (Primary r) text = text ≡ print (primary_flag_tokens (is_primary r))
HasText (Standby r n) text = text ≡ print (standby_flag_tokens (is_standby r n))
HasText (Console t) text = text ≡ text_of t
HasText (Refused w) text = text ≡ print (error_tokens (why_wrong w))

-- the report is one that the standby told, and so many commits a reader knows of, if it was told how many
abbrev pub IsTold : (Report → Type 0) → Report → Option ℕ → Reader → Type 0
IsTold tells r n new = tells r × IfSome n (λ n. count_in (known_to new) ≡ Some n)

-- the reply to a read of these keys: all of them are of one list of commits, not older than what was asked for; or why they are not read
abbrev pub RepliesAll : List Key → AnyLsn → Reply → Reader → Reader → Type 0
RepliesAll keys lsn (Many a) old new = AreRead (pages_of old) keys (known_to new) lsn a
RepliesAll keys lsn (Unread e) old new = IsUnread (has_all (pages_of old) keys) (known_to old) (known_to new) lsn e
RepliesAll keys lsn r old new = ⊥

-- that no keys are named, or that there is no memory for them
abbrev pub IsUnasked : Reply → Type 0
IsUnasked (Unread e) = e ≡ Memory
IsUnasked (Refused w) = w ≡ Body
IsUnasked r = ⊥

-- the reply to a read of the keys that this body names
abbrev pub RepliesAsked : List ℕ → AnyLsn → Reply → Reader → Reader → Type 0
RepliesAsked body lsn r old new = ((keys : List Key) × IsKeys body keys × RepliesAll keys lsn r old new) ⊎ (IsUnasked r × (new ≡ old))

-- the reply to a query, with this body, by a reader, before and after it, and by what a standby tells
abbrev pub Replies : (Report → Type 0) → Query → List ℕ → Reply → Reader → Reader → Type 0
Replies tells (query.Value key lsn) body (Value a) old new = IsRead (pages_of old) key (known_to new) lsn a
Replies tells (query.Value key lsn) body (Unread e) old new = IsUnread (is_key (pages_of old) key) (known_to old) (known_to new) lsn e
Replies tells (query.Page page lsn) body r old new = RepliesAll (page_keys page) lsn r old new
Replies tells (query.Many lsn) body r old new = RepliesAsked body lsn r old new
Replies tells query.Status body (Status r n) old new = IsTold tells r n new
Replies tells query.Metrics body (Metrics r n) old new = IsTold tells r n new
Replies tells query.Health body (Health r n) old new = IsTold tells r n new
Replies tells query.Primary body (Primary r) old new = tells r
Replies tells query.Standby body (Standby r n) old new = IsTold tells r n new
Replies tells (query.Console t) body (Console u) old new = u ≡ t
Replies tells (query.Refused w) body (Refused v) old new = v ≡ w
Replies tells q body r old new = ⊥

-- the reader goes on: it is of the same view, and knows no less
abbrev pub GoesOn : Reader → Reader → Type 0
GoesOn old new = IsSameReader old new × Begins (known_to old) (known_to new)

-- the response has the reply's status, fields and text
pub record ShowsAll (reply : Reply) (response : Response) : Type 0 where
  pub status : response.status ≡ status_of reply
  pub fields : fields_of response ≡ fields_for reply
  pub text : HasText reply response.body.items

-- so it has, or it is empty where no memory was left for it
abbrev pub Shows : Reply → Response → Type 0
Shows reply response = ShowsAll reply response ⊎ IsResponse 503 [] [] response

-- a reply to the query with this body, and a response that shows it
pub record Answers (tells : Report → Type 0) (q : Query) (body : List ℕ) (old : Reader) (response : Response) (new : Reader) : Type 0 where
  pub reply : Reply
  pub replies : Replies tells q body reply old new
  pub goes_on : GoesOn old new
  pub shows : Shows reply response
