-- What holds of the queue and of all passes, at each moment.
use Rattle.std.specs.Prelude.{◌≡◌, ℕ, ◌+◌, ◌-◌, List, [], ◌∷◌, ◌++◌}
use mathlib.Core.Option.{some}
use lib.ListN.{get_elem?}
use Rattle.als_workers.specs.declared.job.Job.{Job}
use Rattle.als_workers.specs.declared.rule.PassState.{PassState}
use Rattle.als_workers.specs.Pairs.{pairs_of, pairs_in, stops_of, stops_in, weigh}

-- a pass with these parts, which put and took these pairs and so many stops, and to which the queue handed so many jobs back
abbrev pub pass_state : ℕ → List (ℕ × ℕ) → List (ℕ × ℕ) → ℕ → ℕ → ℕ → PassState
pass_state parts put taken stops_put stops_taken handed_back =
    record { parts = parts; put = put; taken = taken; stops_put = stops_put; stops_taken = stops_taken; handed_back = handed_back }

-- a pass with these parts, which put and took nothing
abbrev pub new_pass : ℕ → PassState
new_pass parts = pass_state parts [] [] 0 0 0

-- this job was put
abbrev pub has_put : PassState → Job → PassState
has_put v job = pass_state v.parts (v.put ++ pairs_of job) v.taken (v.stops_put + stops_of job) v.stops_taken v.handed_back

-- this job was taken
abbrev pub has_taken : PassState → Job → PassState
has_taken v job = pass_state v.parts v.put (v.taken ++ pairs_of job) v.stops_put (v.stops_taken + stops_of job) v.handed_back

-- a job came back
abbrev pub was_refused : PassState → PassState
was_refused v = pass_state v.parts v.put v.taken v.stops_put v.stops_taken (v.handed_back + 1)

-- one part was cut off
abbrev pub without_part : PassState → PassState
without_part v = pass_state (v.parts - 1) v.put v.taken v.stops_put v.stops_taken v.handed_back

-- two passes joined
abbrev pub joined : PassState → PassState → PassState
joined v w =
    pass_state (v.parts + w.parts) (v.put ++ w.put) (v.taken ++ w.taken) (v.stops_put + w.stops_put) (v.stops_taken + w.stops_taken)
    (v.handed_back + w.handed_back)

-- a number of each pass, summed over all passes
abbrev pub total : (PassState → ℕ) → List PassState → ℕ
total f [] = 0
total f (v ∷ views) = f v + total f views

-- it has put and taken nothing
abbrev pub IsEmpty : PassState → Type 0
IsEmpty v = (v.put ≡ []) × (v.taken ≡ []) × (v.stops_put ≡ 0) × (v.stops_taken ≡ 0)

-- a pass with no part has put and taken nothing
abbrev pub IdleIsEmpty : List PassState → Type 0
IdleIsEmpty views = (port : ℕ) (v : PassState) → get_elem? views port ≡ some v → v.parts ≡ 0 → IsEmpty v

-- What was put is what was taken and what is queued, whatever weight each pair has. With the weight 1 for one pair and 0 for the
-- others: that pair was put as often as it was taken plus as often as it is queued. So it is with stops.
abbrev pub Balanced : List Job → List PassState → Type 0
Balanced jobs views =
    (total (λ v. v.parts) views ≡ 1024)
    × ((h : (ℕ × ℕ) → ℕ) → total (λ v. weigh h v.put) views ≡ total (λ v. weigh h v.taken) views + weigh h (pairs_in jobs))
    × IdleIsEmpty views
    × (total (λ v. v.stops_put) views ≡ total (λ v. v.stops_taken) views + stops_in jobs)
