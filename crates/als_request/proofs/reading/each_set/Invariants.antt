use Rattle.std.proofs.Common.{◌≡◌, ◌++◌, drop, option_map}
use Rattle.json.specs.Value.{items_view}
use Rattle.als_request.specs.Asking.{each, set_in}
use Rattle.als_request.proofs.reading.each_set.Given as goal

-- what was read, and then what the rest is
abbrev pub invariant-loop-item : goal.invariant-loop-item
invariant-loop-item l =
    each set_in (items_view l.items) ≡ option_map (λ rest. l.sets.items ++ rest) (each set_in (items_view (drop l.item-index l.items)))
