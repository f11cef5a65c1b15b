-- What a worker did with the leases that it took: it lost none.
use Rattle.std.specs.Prelude.{◌≡◌, ◌⊎◌, ℕ, ◌+◌, ◌<◌, ◌≤◌, ◌==◌, true, false, List, [], ◌∷◌, ◌++◌, length, Option, Some, None, if◌then◌else◌}
use Rattle.als_lease.specs.Lease.{Leased, is_finished}
use Rattle.als_workers.specs.declared.rule.PassState.{PassState}
use Rattle.als_workers.specs.Pairs.{pair_of, weigh}
use Rattle.als_workers.specs.declared.job.Job.TheVariants.{Work}
use Rattle.als_workers.specs.Rule.{pass_state, has_taken}
use Rattle.als_workers.specs.declared.offer.Offer.{Offer}
use Rattle.als_workers.specs.declared.ended.Ended.{Ended}
use Rattle.als_workers.specs.declared.ended.Ended.TheVariants.{Stop, Empty, Gate, Back, Memory}

-- 1 for a number, else 0
abbrev pub one_if : ℕ → ℕ → ℕ
one_if number n = if n == number then 1 else 0

-- how many of some pairs have a number
abbrev pub times : ℕ → List (ℕ × ℕ) → ℕ
times number pairs = weigh (λ p. one_if number p.0) pairs

-- how many of some offers have a number
abbrev pub times_offered : ℕ → List Offer → ℕ
times_offered number [] = 0
times_offered number (e ∷ es) = one_if number e.number + times_offered number es

-- one of these pairs has this number and a turn below
abbrev pub TakenBelow : List (ℕ × ℕ) → ℕ → ℕ → Type 0
TakenBelow [] number turn = ⊥
TakenBelow (p ∷ ps) number turn = ((p.0 ≡ number) × (p.1 < turn)) ⊎ TakenBelow ps number turn

-- each pair put has a greater turn than one of those taken with its number
abbrev pub HaveRisen : List (ℕ × ℕ) → List (ℕ × ℕ) → Type 0
HaveRisen taken [] = Unit {0}
HaveRisen taken (p ∷ ps) = TakenBelow taken p.0 p.1 × HaveRisen taken ps

-- each offer has no smaller a turn than one of the pairs taken with its number
abbrev pub HaveNotFallen : List (ℕ × ℕ) → List Offer → Type 0
HaveNotFallen taken [] = Unit {0}
HaveNotFallen taken (e ∷ es) = TakenBelow taken e.number (e.turn + 1) × HaveNotFallen taken es

-- all these leases were finished
abbrev pub AreFinished : List Offer → Type 0
AreFinished [] = Unit {0}
AreFinished (e ∷ es) = (e.finished ≡ true) × AreFinished es

-- An unfinished lease is given at most once, last, and only by a worker that the gate stopped or that could not put it back.
abbrev pub MayLeave : Option Ended → List Offer → Type 0
MayLeave (Some Gate) left = length left ≤ 1
MayLeave (Some Back) left = length left ≤ 1
MayLeave (Some Stop) left = left ≡ []
MayLeave (Some Empty) left = left ≡ []
MayLeave (Some Memory) left = left ≡ []
MayLeave None left = left ≡ []

-- how many stops a worker took that ended so
abbrev pub stops_for : Option Ended → ℕ
stops_for (Some Stop) = 1
stops_for (Some Empty) = 0
stops_for (Some Gate) = 0
stops_for (Some Back) = 0
stops_for (Some Memory) = 0
stops_for None = 0

-- how many leases the queue handed back to it
abbrev pub returns_for : Option Ended → ℕ
returns_for (Some Back) = 1
returns_for (Some Stop) = 0
returns_for (Some Empty) = 0
returns_for (Some Gate) = 0
returns_for (Some Memory) = 0
returns_for None = 0

-- Between two moments a worker took and put these pairs and gave these leases: of each number as many were taken as were put and given
-- together. It took a stop where that is its reason, and put none. Without a reason it goes on.
pub record Worked (v w : PassState) (before after : List Offer) (why : Option Ended) : Type 0 where
  pub put : List (ℕ × ℕ)
  pub taken : List (ℕ × ℕ)
  pub finished : List Offer
  pub left : List Offer
  pub passes : w ≡ pass_state v.parts (v.put ++ put) (v.taken ++ taken) v.stops_put (v.stops_taken + stops_for why) (v.handed_back + returns_for why)
  pub offers : after ≡ before ++ (finished ++ left)
  pub balance : (number : ℕ) → times number taken ≡ times number put + times_offered number (finished ++ left)
  pub rose : HaveRisen taken put
  pub kept : HaveNotFallen taken (finished ++ left)
  pub whole : AreFinished finished
  pub may_leave : MayLeave why left

-- one turn of redo on a lease: 16 changes, or all that were left
pub record IsTurnOf (old new : Leased) : Type 0 where
  pub number : new.number ≡ old.number
  pub further : old.done ≤ new.done
  pub turn : is_finished new ≡ false → new.done ≡ old.done + 16

-- a pass that has just taken this lease
abbrev pub HasTaken : PassState → Leased → PassState → Type 0
HasTaken u l v = v ≡ has_taken u (Work l)
