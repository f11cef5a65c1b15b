-- Passes of a hand-off.
use Rattle.std.specs.Prelude.{◌≡◌, ℕ, ◌+◌, List}
use Rattle.crossbeam_channel.specs.Claims.{Pass, IsSeatAt}
use Rattle.crossbeam_channel.specs.Ends.{sends_on}
use Rattle.als_workers.specs.declared.job.Job.{Job}
use Rattle.als_workers.specs.declared.rule.PassState.{PassState}
use Rattle.als_workers.specs.declared.queue.HandOff.{HandOff}
use Rattle.als_workers.specs.Pairs.{weigh}

-- the pass belongs to this queue
abbrev pub IsPassOf : HandOff → Pass Job PassState → Type 0
IsPassOf queue pass = IsSeatAt (sends_on queue.sender) pass

-- the pairs put are those taken and those left, each as often: so it is with every weight
abbrev pub HaveBeenPut : List (ℕ × ℕ) → List (ℕ × ℕ) → List (ℕ × ℕ) → Type 0
HaveBeenPut put taken left = (h : (ℕ × ℕ) → ℕ) → weigh h put ≡ weigh h taken + weigh h left
