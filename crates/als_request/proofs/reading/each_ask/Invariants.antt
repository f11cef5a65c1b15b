use Rattle.std.proofs.Common.{◌≡◌, ◌++◌, drop, option_map}
use Rattle.json.specs.Value.{items_view}
use Rattle.als_request.specs.Asking.{each, ask_in}
use Rattle.als_request.proofs.reading.each_ask.Given as goal

-- what was read, and then what the rest is
abbrev pub invariant-loop-item : goal.invariant-loop-item
invariant-loop-item l =
    each ask_in (items_view l.items) ≡ option_map (λ rest. l.asks.items ++ rest) (each ask_in (items_view (drop l.item-index l.items)))
