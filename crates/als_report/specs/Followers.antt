-- What a primary reports of those that follow it, and of what it committed.
use Rattle.std.specs.Prelude.{ℕ, ◌-◌, ◌==◌, List, [], ◌∷◌, ◌++◌, length, flat_map, codes, decimal, if◌then◌else◌}
use Rattle.std.specs.Net.Text.{ip_text}
use Rattle.json.specs.Token.{Token, begin_object, end_object, begin_array, end_array, key, string, number, boolean}
use Rattle.als_report.specs.Health.{takes_commits, is_new}
use Rattle.als_report.specs.declared.follower.Follower.{Follower}
use Rattle.als_report.specs.declared.report.Report.{Report}
use Rattle.als_report.specs.declared.work.Work.{Work}

-- the bytes that a follower lacks of a log that is acknowledged up to there
abbrev pub behind : ℕ → Follower → ℕ
behind acknowledged f = acknowledged - f.acknowledged.0

-- for so many seconds it has lacked some: none where it lacks nothing, else those since it last acknowledged
abbrev pub seconds_behind : ℕ → Follower → ℕ
seconds_behind acknowledged f = if behind acknowledged f == 0 then 0 else f.silence

-- a member that is a number
abbrev pub number_tokens : List ℕ → ℕ → List Token
number_tokens name n = key name ∷ number (decimal n) ∷ []

-- transactions, groups and microseconds of forces, each by its own number
abbrev pub work_tokens : Work → List Token
work_tokens w =
    number_tokens (codes "transactions") w.transactions
    ++ (number_tokens (codes "groups") w.groups ++ number_tokens (codes "force_microseconds") w.force_microseconds)

-- where a follower connected from, and what it acknowledged
abbrev pub place_tokens : Follower → List Token
place_tokens f = key (codes "address") ∷ string (ip_text f.peer) ∷ key (codes "acknowledged") ∷ number (decimal f.acknowledged.0) ∷ []

-- how far it is behind
abbrev pub lag_tokens : ℕ → Follower → List Token
lag_tokens acknowledged f =
    number_tokens (codes "behind") (behind acknowledged f) ++ number_tokens (codes "seconds_behind") (seconds_behind acknowledged f)

-- for how long it is connected, and whether it counts
abbrev pub session_tokens : Follower → List Token
session_tokens f = key (codes "connected") ∷ number (decimal f.age) ∷ key (codes "counts") ∷ boolean f.counts ∷ []

-- the object of a follower of a log that is acknowledged up to there
unfoldable pub follower_tokens : ℕ → Follower → List Token
follower_tokens acknowledged f =
    (begin_object ∷ []) ++ (place_tokens f ++ (lag_tokens acknowledged f ++ (session_tokens f ++ (end_object ∷ []))))

-- the array of all followers, in order
abbrev pub followers_tokens : ℕ → List Follower → List Token
followers_tokens acknowledged fs =
    (key (codes "followers") ∷ begin_array ∷ []) ++ (flat_map (follower_tokens acknowledged) fs ++ (end_array ∷ []))

-- the same, where there is any
unfoldable pub any_followers_tokens : ℕ → List Follower → List Token
any_followers_tokens acknowledged fs = if length fs == 0 then [] else followers_tokens acknowledged fs

-- whether nothing was ever committed
abbrev pub new_tokens : Report → List Token
new_tokens r = key (codes "new") ∷ boolean (is_new r) ∷ []

-- how many transactions are in doubt, how many followers a commit waits for, and whether nothing was ever committed
unfoldable pub counts_tokens : Report → List Token
counts_tokens r = number_tokens (codes "in_doubt") r.in_doubt ++ (number_tokens (codes "sync") r.sync ++ new_tokens r)

-- what a node that takes commits reports beside what every node does; of any other node those that follow it
unfoldable pub primary_tokens : Report → List Token
primary_tokens r =
    if takes_commits r.state
    then work_tokens r.work
    ++ (counts_tokens r ++ followers_tokens r.acknowledged.0 r.followers.items)
    else any_followers_tokens r.acknowledged.0 r.followers.items
