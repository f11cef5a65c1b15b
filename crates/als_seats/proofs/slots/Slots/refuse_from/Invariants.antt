use Rattle.std.proofs.Common.{◌≡◌, ◌≤◌, ◌⊎◌, ◌-◌, length}
use Rattle.als_seats.proofs.Outcomes.{RefusesTo}
use Rattle.als_seats.proofs.slots.Slots.refuse_from.Given as goal

-- the slots from the first one that was not put, up to this one, are refused
abbrev pub invariant-loop-at : goal.invariant-loop-at
invariant-loop-at g l =
    RefusesTo {A = g.row.A.Denot} l.fn.put l.at l.fn.self.outcomes.items l.self.outcomes.items
    × (l.fn.put ≤ l.at)
    × ((l.at ≤ l.fn.put) ⊎ (l.at ≤ length l.fn.self.outcomes.items))
    × (l.self.left ≡ l.fn.self.left - (l.at - l.fn.put))
    × (l.self.is_over ≡ l.fn.self.is_over)
