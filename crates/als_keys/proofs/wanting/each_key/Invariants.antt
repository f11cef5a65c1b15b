use Rattle.std.proofs.Common.{◌≡◌, ◌++◌, ◌≤◌, drop, length, option_map}
use Rattle.json.specs.Value.{items_view}
use Rattle.als_keys.specs.Wanting.{each_key}
use Rattle.als_keys.proofs.wanting.each_key.Given as goal

-- what was read, and then what the rest is
abbrev pub invariant-loop-item : goal.invariant-loop-item
invariant-loop-item l =
    (each_key (items_view l.items) ≡ option_map (λ rest. l.keys.items ++ rest) (each_key (items_view (drop l.item-index l.items))))
    × (length l.keys.items ≤ l.item-index)
