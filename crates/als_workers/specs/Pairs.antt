-- Pairs of a lease's number and its turn, and stops.
use Rattle.std.specs.Prelude.{ℕ, ◌+◌, List, [], ◌∷◌, ◌++◌}
use Rattle.als_lease.specs.Lease.{Leased, turn_of}
use Rattle.als_workers.specs.declared.job.Job.{Job}
use Rattle.als_workers.specs.declared.job.Job.TheVariants.{Work, Stop}

-- the pair of a lease
abbrev pub pair_of : Leased → ℕ × ℕ
pair_of l = (l.number, turn_of l)

-- the pair of a job's lease; a stop has none
abbrev pub pairs_of : Job → List (ℕ × ℕ)
pairs_of (Work l) = pair_of l ∷ []
pairs_of Stop = []

-- 1 for a stop
abbrev pub stops_of : Job → ℕ
stops_of (Work l) = 0
stops_of Stop = 1

-- the pairs of some jobs, in order
abbrev pub pairs_in : List Job → List (ℕ × ℕ)
pairs_in [] = []
pairs_in (job ∷ jobs) = pairs_of job ++ pairs_in jobs

-- how many of some jobs are stops
abbrev pub stops_in : List Job → ℕ
stops_in [] = 0
stops_in (job ∷ jobs) = stops_of job + stops_in jobs

-- the sum of the weights of some pairs
abbrev pub weigh : ((ℕ × ℕ) → ℕ) → List (ℕ × ℕ) → ℕ
weigh h [] = 0
weigh h (x ∷ xs) = h x + weigh h xs
