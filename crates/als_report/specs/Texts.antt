-- The JSON texts of replies, as tokens.
use Rattle.std.specs.Prelude.{ℕ, Bool, List, [], ◌∷◌, ◌++◌, map, codes, decimal, Option, Some, None, if◌then◌else◌}
use Rattle.json.specs.Token.{Token, begin_object, end_object, begin_array, end_array, key, string, number, boolean, null}
use Rattle.hex.specs.Hex.{encode_lower}
use Rattle.als_record.specs.Spelling.{Image}
use Rattle.als_view.specs.declared.answer.Answer.{Answer}
use Rattle.als_view.specs.declared.many.Many.{Many}
use Rattle.als_report.specs.States.{name_of_state}
use Rattle.als_report.specs.Health.{room_of, takeovers_left, transactions_left, takes_commits}
use Rattle.als_report.specs.Followers.{primary_tokens, number_tokens}
use Rattle.als_report.specs.declared.refusals.Refusals.{Refusals}
use Rattle.als_report.specs.declared.report.Report.{Report}
use Rattle.als_report.specs.declared.unread.Unread.{Unread}
use Rattle.als_report.specs.declared.unread.Unread.TheVariants.{Warming, Stopped, Older, NoSuchKey, Memory}

-- an image in lower case hexadecimal
abbrev pub image_token : Image → Token
image_token None = null
image_token (Some v) = string (encode_lower v.items)

-- a number, or null where there is none
abbrev pub number_token : Option ℕ → Token
number_token None = null
number_token (Some n) = number (decimal n)

-- a member of an object
abbrev pub member_tokens : List ℕ → Option ℕ → List Token
member_tokens name value = key name ∷ number_token value ∷ []

abbrev pub value_tokens : Answer → List Token
value_tokens a =
    begin_object ∷ key (codes "value") ∷ image_token a.value ∷ key (codes "commits") ∷ number (decimal a.commits)
    ∷ key (codes "lsn") ∷ number (decimal a.lsn.0) ∷ end_object ∷ []

-- the images of keys, in their order
abbrev pub images_tokens : List Image → List Token
images_tokens images = (key (codes "values") ∷ begin_array ∷ []) ++ (map image_token images ++ (end_array ∷ []))

-- an answer of many keys: their values in order, and what all of them are of
abbrev pub many_tokens : Many → List Token
many_tokens m =
    (begin_object ∷ []) ++ (images_tokens m.images.items ++ (member_tokens (codes "commits") (Some m.commits)
    ++ (member_tokens (codes "lsn") (Some m.lsn.0) ++ (end_object ∷ []))))

-- the state, and how far the log goes
abbrev pub log_tokens : Report → List Token
log_tokens r =
    key (codes "state") ∷ string (name_of_state r.state) ∷ key (codes "end") ∷ number (decimal r.end.0)
    ∷ key (codes "acknowledged") ∷ number (decimal r.acknowledged.0) ∷ []

-- what waits, what is published, and how old the last frame is
abbrev pub redo_tokens : Report → Option ℕ → List Token
redo_tokens r commits =
    key (codes "pending") ∷ number (decimal r.pending) ∷ key (codes "leases") ∷ number (decimal r.leases)
    ∷ key (codes "commits") ∷ number_token commits ∷ key (codes "seconds_since_last_frame") ∷ number_token r.silence ∷ []

-- how much log there can be, how much of it is left, and how many takeovers and transactions
abbrev pub room_tokens : Report → List Token
room_tokens r =
    key (codes "capacity") ∷ number_token r.capacity ∷ key (codes "left") ∷ number_token (room_of r)
    ∷ key (codes "takeovers_left") ∷ number_token (takeovers_left r) ∷ key (codes "transactions_left") ∷ number_token (transactions_left r) ∷ []

-- how many were refused, and the number of the last refusal that has one
abbrev pub refused_tokens : Refusals → List Token
refused_tokens r = number_tokens (codes "refused") r.count ++ member_tokens (codes "last_refusal") r.last

-- what a node that takes commits refused; of any other node nothing
unfoldable pub refusal_tokens : Report → List Token
refusal_tokens r = if takes_commits r.state then refused_tokens r.refusals else []

-- the members that every node's status has, and behind them those of a node that takes commits
abbrev pub status_tokens : Report → Option ℕ → List Token
status_tokens r commits =
    begin_object ∷ key (codes "state") ∷ string (name_of_state r.state) ∷ key (codes "end") ∷ number (decimal r.end.0)
    ∷ key (codes "acknowledged") ∷ number (decimal r.acknowledged.0)
    ∷ key (codes "pending") ∷ number (decimal r.pending) ∷ key (codes "leases") ∷ number (decimal r.leases)
    ∷ key (codes "commits") ∷ number_token commits ∷ key (codes "seconds_since_last_frame") ∷ number_token r.silence
    ∷ key (codes "capacity") ∷ number_token r.capacity ∷ key (codes "left") ∷ number_token (room_of r)
    ∷ key (codes "takeovers_left") ∷ number_token (takeovers_left r) ∷ key (codes "transactions_left") ∷ number_token (transactions_left r)
    ∷ (primary_tokens r ++ (refusal_tokens r ++ (end_object ∷ [])))

-- an object of one member, which is true or false
abbrev pub flag_tokens : List ℕ → Bool → List Token
flag_tokens name flag = begin_object ∷ key name ∷ boolean flag ∷ end_object ∷ []

abbrev pub health_tokens : Bool → List Token
health_tokens healthy = flag_tokens (codes "healthy") healthy

-- whether clients may send it commits
abbrev pub primary_flag_tokens : Bool → List Token
primary_flag_tokens flag = flag_tokens (codes "primary") flag

-- whether it is a healthy standby
abbrev pub standby_flag_tokens : Bool → List Token
standby_flag_tokens flag = flag_tokens (codes "standby") flag

abbrev pub error_tokens : List ℕ → List Token
error_tokens why = begin_object ∷ key (codes "error") ∷ string why ∷ end_object ∷ []

abbrev pub why_unread : Unread → List ℕ
why_unread Warming = codes "35 Warming: no commits are published yet"
why_unread Stopped = codes "31 Stopped: the view has ended"
why_unread (Older lsn) = codes "the commit that Als-At-Least names is not published yet"
why_unread NoSuchKey = codes "the database has no such page or slot"
why_unread Memory = codes "no memory for the values"
