-- What a response to a request for commits shows.
use Rattle.std.specs.Prelude.{◌≡◌, ℕ, ◌⊎◌, ◌==◌, Bool, true, false, List, [], ◌∷◌, ◌++◌, flat_map, codes, decimal, Option, Some, None, if◌then◌else◌}
use Rattle.http1.specs.Fields.{Header}
use Rattle.http_server.specs.declared.response.Response.{Response}
use Rattle.http_server.specs.Response.{IsResponse, fields_of}
use Rattle.json.specs.Token.{Token, begin_object, end_object, begin_array, end_array, key, string, number, boolean}
use Rattle.json.specs.Print.{print}
use Rattle.als_fault.specs.Kinds.{number_of, name_of}
use Rattle.als_fault.specs.declared.fault_kind.FaultKind.{FaultKind}
use Rattle.als_fault.specs.declared.fault_kind.FaultKind.TheVariants as kind
use Rattle.als_engine.specs.declared.fault.Fault.{Fault}
use Rattle.als_engine.specs.Faults.{kind_of}
use Rattle.als_record.specs.Spelling.{Image}
use Rattle.als_record.specs.declared.key.Key.{Key}
use Rattle.als_report.specs.Texts.{image_token, error_tokens}
use Rattle.als_store.specs.declared.decision.Decision.{Decision as Verdict}
use Rattle.als_store.specs.declared.decision.Decision.TheVariants.{Commit, Rollback}
use Rattle.als_record.specs.declared.trans_id.TransId.{TransId}
use Rattle.als_writer.specs.Refusing.{fault_of, fault_undecided}
use Rattle.als_writer.specs.declared.not_decided.NotDecided.{NotDecided as Undecided}
use Rattle.als_writer.specs.declared.not_decided.NotDecided.TheVariants as undecided
use Rattle.als_writer.specs.declared.flaw.Flaw.{Flaw}
use Rattle.als_writer.specs.declared.flaw.Flaw.TheVariants.{NoSet, TooLong, KeyTwice, NoSuchKey}
use Rattle.als_writer.specs.declared.refusal.Refusal.{Refusal}
use Rattle.als_writer.specs.declared.refusal.Refusal.TheVariants.{Invalid, State, Untidy, Held, NotAsAsked, NumbersSpent, TooMany, LogFull, Memory, Unplanned}
use Rattle.als_writer.specs.declared.unmet.Unmet.{Unmet}
use Rattle.als_writer.specs.declared.written.Written.{Written}
use Rattle.als_asking.specs.declared.outcome.Outcome.{Outcome}
use Rattle.als_asking.specs.declared.outcome.Outcome.TheVariants.{Committed, Prepared, Decided, Refused, NotDecided, Unknown, NotBegun, Lost}
use Rattle.als_asking.specs.declared.doubt.Doubt.{Doubt}
use Rattle.als_asking.specs.declared.denied.Denied.{Denied as AnyDenied}
use Rattle.als_asking.specs.declared.denied.Denied.TheVariants.{Host, Method, NoRead, Page, NoToken, OtherToken, Early, Unheard}
use Rattle.als_asking.specs.declared.unread.Unread.{Unread as AnyUnread}
use Rattle.als_asking.specs.declared.unread.Unread.TheVariants as unread
use Rattle.als_asking.specs.declared.told.Told.{Told}
use Rattle.als_asking.specs.declared.told.Told.TheVariants.{One, Each, Decision, InDoubt, Unread, Denied}

-- ---- the status

abbrev pub status_of_refusal : Refusal → ℕ
status_of_refusal (Invalid flaw) = 400
status_of_refusal (State f) = 503
status_of_refusal Untidy = 503
status_of_refusal (Held k by) = 409
status_of_refusal (NotAsAsked failing) = 409
status_of_refusal NumbersSpent = 503
status_of_refusal TooMany = 503
status_of_refusal LogFull = 507
status_of_refusal (Memory owed) = 503
status_of_refusal (Unplanned f) = 503

abbrev pub status_undecided : Undecided → ℕ
status_undecided undecided.NotInDoubt = 404
status_undecided undecided.Untidy = 503
status_undecided (undecided.State f) = 503
status_undecided undecided.Memory = 503

-- 200 of what is durable alone, 504 of all that a restart may find or not
abbrev pub status_of_outcome : Outcome → ℕ
status_of_outcome (Committed w) = 200
status_of_outcome (Prepared w) = 200
status_of_outcome (Decided w) = 200
status_of_outcome (Refused r) = status_of_refusal r
status_of_outcome (NotDecided r) = status_undecided r
status_of_outcome (Unknown w) = 504
status_of_outcome NotBegun = 503
status_of_outcome Lost = 504

abbrev pub status_of_denied : AnyDenied → ℕ
status_of_denied Host = 421
status_of_denied Method = 405
status_of_denied NoRead = 405
status_of_denied Page = 403
status_of_denied NoToken = 401
status_of_denied OtherToken = 403
status_of_denied Early = 503
status_of_denied Unheard = 503

abbrev pub status_of_unread : AnyUnread → ℕ
status_of_unread unread.Memory = 503
status_of_unread (unread.One m) = 400
status_of_unread (unread.At i m) = 400
status_of_unread unread.Array = 400
status_of_unread unread.TooMany = 400

abbrev pub status_of : Told → ℕ
status_of (One o) = status_of_outcome o
status_of (Each os) = 200
status_of (Decision t v o) = status_of_outcome o
status_of (InDoubt ds) = 200
status_of (Unread u) = status_of_unread u
status_of (Denied d) = status_of_denied d

-- the status of a response that memory was refused for
abbrev pub status_unwritten : Told → ℕ
status_unwritten (One o) = 504
status_unwritten (Each os) = 504
status_unwritten (Decision t v o) = 504
status_unwritten (InDoubt ds) = 503
status_unwritten (Unread u) = 503
status_unwritten (Denied d) = 503

-- ---- the header fields

-- the LSN of what is in the log
abbrev pub written_field : Written → List Header
written_field w = (codes "als-lsn", decimal w.lsn.0) ∷ []

-- the LSN of what is committed or prepared
abbrev pub lsn_field : Outcome → List Header
lsn_field (Committed w) = written_field w
lsn_field (Prepared w) = written_field w
lsn_field o = []

-- the LSN of what a decision commits
abbrev pub decided_field : Verdict → Outcome → List Header
decided_field Commit (Decided w) = written_field w
decided_field v o = []

-- when to ask again, where nothing was written
abbrev pub retry_field : ℕ → List Header
retry_field status = if status == 503 then (codes "retry-after", codes "1") ∷ [] else []

-- what would be taken
abbrev pub denied_fields : AnyDenied → List Header
denied_fields Method = (codes "allow", codes "POST") ∷ []
denied_fields NoRead = (codes "allow", codes "GET, HEAD") ∷ []
denied_fields NoToken = (codes "www-authenticate", codes "Bearer") ∷ []
denied_fields d = []

abbrev pub own_fields : Told → List Header
own_fields (One o) = lsn_field o
own_fields (Each os) = []
own_fields (Decision t v o) = decided_field v o
own_fields (InDoubt ds) = []
own_fields (Unread u) = []
own_fields (Denied d) = denied_fields d

-- nobody may keep an answer
abbrev pub fields_for : Told → List Header
fields_for told =
    (codes "content-type", codes "application/json") ∷ (codes "cache-control", codes "no-store") ∷ (retry_field (status_of told) ++ own_fields told)

-- ---- the text

-- a member that is a number
abbrev pub number_tokens : List ℕ → ℕ → List Token
number_tokens name n = key name ∷ number (decimal n) ∷ []

-- a member that is a text
abbrev pub string_tokens : List ℕ → List ℕ → List Token
string_tokens name text = key name ∷ string text ∷ []

-- a member that is true or false
abbrev pub truth_tokens : List ℕ → Bool → List Token
truth_tokens name b = key name ∷ boolean b ∷ []

abbrev pub written_tokens : Written → List Token
written_tokens w = number_tokens (codes "trans") w.trans.0 ++ number_tokens (codes "lsn") w.lsn.0

abbrev pub key_tokens : Key → List Token
key_tokens k = (key (codes "key") ∷ begin_array ∷ []) ++ ((number (decimal k.page) ∷ number (decimal k.slot) ∷ []) ++ (end_array ∷ []))

-- a fault by its number and its name
unfoldable pub fault_tokens : FaultKind → List Token
fault_tokens k = number_tokens (codes "refused") (number_of k) ++ string_tokens (codes "name") (name_of k)

abbrev pub why_flaw : Flaw → List ℕ
why_flaw NoSet = codes "it sets no key"
why_flaw TooLong = codes "it has more than 600 sets or more than 600 comparisons"
why_flaw (KeyTwice k) = codes "it sets a key twice"
why_flaw (NoSuchKey k) = codes "the database has no such key"

-- the key that is wrong
abbrev pub flaw_key : Flaw → List Token
flaw_key NoSet = []
flaw_key TooLong = []
flaw_key (KeyTwice k) = key_tokens k
flaw_key (NoSuchKey k) = key_tokens k

abbrev pub flaw_tokens : Flaw → List Token
flaw_tokens f = string_tokens (codes "error") (why_flaw f) ++ flaw_key f

abbrev pub value_tokens : Image → List Token
value_tokens now = key (codes "value") ∷ image_token now ∷ []

-- a comparison that fails: its key, and the value of that now
abbrev pub unmet_tokens : Unmet → List Token
unmet_tokens u = (begin_object ∷ []) ++ (key_tokens u.key ++ (value_tokens u.image ++ (end_object ∷ [])))

-- those that fail, in order
abbrev pub failing_tokens : List Unmet → List Token
failing_tokens us = (key (codes "not_as_asked") ∷ begin_array ∷ []) ++ (flat_map unmet_tokens us ++ (end_array ∷ []))

-- the fault of a refusal; the log that is not tidy is not drained
abbrev pub kind_or : Option Fault → FaultKind
kind_or None = kind.NotDrained
kind_or (Some f) = kind_of f

abbrev pub refusal_tokens : Refusal → List Token
refusal_tokens (Invalid flaw) = flaw_tokens flaw
refusal_tokens (Held k by) = number_tokens (codes "held_by") by.0
refusal_tokens (NotAsAsked failing) = failing_tokens failing
refusal_tokens r = fault_tokens (kind_or (fault_of r))

-- that a restart may find it or not
abbrev pub unknown_tokens : List Token
unknown_tokens = truth_tokens (codes "unknown") true

-- that nothing of it is in the log, by a name: no fault has a number for that
abbrev pub not_begun_tokens : List Token
not_begun_tokens = string_tokens (codes "name") (codes "NotBegun")

-- the members of an outcome
unfoldable pub outcome_tokens : Outcome → List Token
outcome_tokens (Committed w) = written_tokens w
outcome_tokens (Prepared w) = written_tokens w ++ truth_tokens (codes "prepared") true
outcome_tokens (Decided w) = written_tokens w
outcome_tokens (Refused r) = refusal_tokens r
outcome_tokens (NotDecided r) = fault_tokens (kind_or (fault_undecided r))
outcome_tokens (Unknown w) = unknown_tokens ++ written_tokens w
outcome_tokens NotBegun = not_begun_tokens
outcome_tokens Lost = unknown_tokens

-- the object of one transaction
abbrev pub one_tokens : Outcome → List Token
one_tokens o = (begin_object ∷ []) ++ (outcome_tokens o ++ (end_object ∷ []))

-- the object of a transaction of an array: its status, and what it would be answered alone
abbrev pub item_tokens : Outcome → List Token
item_tokens o = (begin_object ∷ []) ++ (number_tokens (codes "status") (status_of_outcome o) ++ (outcome_tokens o ++ (end_object ∷ [])))

-- the array of these outcomes, in order
abbrev pub each_tokens : List Outcome → List Token
each_tokens os = (begin_array ∷ []) ++ (flat_map item_tokens os ++ (end_array ∷ []))

-- that a transaction is not in doubt
abbrev pub undoubted_tokens : TransId → List Token
undoubted_tokens t = string_tokens (codes "error") (codes "not in doubt") ++ number_tokens (codes "trans") t.0

-- whether a decision commits
abbrev pub commits_by : Verdict → Bool
commits_by Commit = true
commits_by Rollback = false

-- the members of a decision of this transaction: what it came to, or that the transaction is not in doubt
unfoldable pub decision_members : TransId → Verdict → Outcome → List Token
decision_members t v (Decided w) = written_tokens w ++ truth_tokens (codes "committed") (commits_by v)
decision_members t v (NotDecided undecided.NotInDoubt) = undoubted_tokens t
decision_members t v o = outcome_tokens o

-- the object of a decision
abbrev pub decision_tokens : TransId → Verdict → Outcome → List Token
decision_tokens t v o = (begin_object ∷ []) ++ (decision_members t v o ++ (end_object ∷ []))

-- the object of a transaction in doubt: its number, and the LSN of its last record
abbrev pub doubt_tokens : Doubt → List Token
doubt_tokens d = (begin_object ∷ []) ++ (number_tokens (codes "trans") d.trans.0 ++ (number_tokens (codes "lsn") d.lsn.0 ++ (end_object ∷ [])))

-- the array of these, in order
abbrev pub doubts_tokens : List Doubt → List Token
doubts_tokens ds = (begin_array ∷ []) ++ (flat_map doubt_tokens ds ++ (end_array ∷ []))

abbrev pub why_denied : AnyDenied → List ℕ
why_denied Host = codes "this node has no such host: localhost, 127.0.0.1, [::1]"
why_denied Method = codes "transactions are committed by POST"
why_denied NoRead = codes "transactions in doubt are read by GET"
why_denied Page = codes "a page of a browser may not commit"
why_denied NoToken = codes "a commit brings the token: Authorization: Bearer TOKEN"
why_denied OtherToken = codes "this is not the token"
why_denied Early = codes "35 Warming: too few standbys have acknowledged the log with which this primary began"
why_denied Unheard = codes "too few standbys have answered this primary of late: another node may have been taken over"

-- the bytes of the text; what is wrong with a body is only tested
unfoldable pub HasText : Told → List ℕ → Type 0
HasText (One o) text = text ≡ print (one_tokens o)
HasText (Each os) text = text ≡ print (each_tokens os.items)
HasText (Decision t v o) text = text ≡ print (decision_tokens t v o)
HasText (InDoubt ds) text = text ≡ print (doubts_tokens ds.items)
HasText (Unread u) text = (why : List ℕ) × (text ≡ print (error_tokens why))
HasText (Denied d) text = text ≡ print (error_tokens (why_denied d))

-- ---- the response

pub record ShowsAll (told : Told) (response : Response) : Type 0 where
  pub status : response.status ≡ status_of told
  pub fields : fields_of response ≡ fields_for told
  pub text : HasText told response.body.items

-- the response has the status, the fields and the text, or it is empty where no memory was left for it
abbrev pub Shows : Told → Response → Type 0
Shows told response = ShowsAll told response ⊎ IsResponse (status_unwritten told) [] [] response
