-- How far followers are behind, worked by hand, and of which node nothing is reported of them.
use Rattle.std.specs.Prelude.{◌≡◌, ◌++◌, Bool, false, [], if◌then◌else◌}
use Rattle.std.proofs.Common.{refl, ap, ◌∙◌}
use Rattle.als_report.specs.Health.{takes_commits}
use Rattle.als_report.specs.Followers.{behind, seconds_behind, number_tokens, work_tokens, counts_tokens, followers_tokens, any_followers_tokens, primary_tokens}
use Rattle.als_report.specs.declared.follower.Follower.{Follower}
use Rattle.als_report.specs.declared.report.Report.{Report}
use Rattle.std.specs.Prelude.{codes}

-- it has 60 bytes of 100, and last acknowledged 7 seconds ago
behind_row : (f : Follower) → behind 100 (record f { acknowledged = record { 0 = 60 }; silence = 7 }) ≡ 40
behind_row f = refl

seconds_row : (f : Follower) → seconds_behind 100 (record f { acknowledged = record { 0 = 60 }; silence = 7 }) ≡ 7
seconds_row f = refl

-- one that has all of them is no second behind, however long ago it acknowledged
level_row : (f : Follower) → seconds_behind 100 (record f { acknowledged = record { 0 = 100 }; silence = 7 }) ≡ 0
level_row f = refl

-- one that acknowledged more than is acknowledged here is behind by nothing
ahead_row : (f : Follower) → behind 100 (record f { acknowledged = record { 0 = 160 } }) ≡ 0
ahead_row f = refl

-- the status of a node that takes no commits and that nobody follows has the members that every node's has, and no more
a_standby_has_none : (r : Report) → takes_commits r.state ≡ false → r.followers.items ≡ [] → primary_tokens r ≡ []
unfolding primary_tokens any_followers_tokens
a_standby_has_none r h none =
    ap (λ (b : Bool). if b
    then work_tokens r.work
    ++ (counts_tokens r ++ followers_tokens r.acknowledged.0 r.followers.items) else any_followers_tokens r.acknowledged.0 r.followers.items) h
    ∙ ap (any_followers_tokens r.acknowledged.0) none
