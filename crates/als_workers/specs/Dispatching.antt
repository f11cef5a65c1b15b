-- What a dispatcher does with the leases that it was lent: it loses none.
use Rattle.std.specs.Prelude.{◌≡◌, ℕ, ◌+◌, ◌≤◌, List, [], ◌∷◌, ◌++◌, length}
use Rattle.als_engine.specs.declared.event.Event.TheVariants as event
use Rattle.als_engine.specs.Tally.{place_of, raised}
use Rattle.als_workers.specs.declared.rule.PassState.{PassState}
use Rattle.als_workers.specs.Rule.{pass_state}

-- no change of these leases is redone, as far as their turn says
abbrev pub AreFresh : List (ℕ × ℕ) → Type 0
AreFresh [] = Unit {0}
AreFresh (p ∷ ps) = (p.1 ≡ 0) × AreFresh ps

-- Between two moments a dispatcher took nothing and put these pairs, each of a lease with nothing redone. Of the leases that it was lent
-- it put all but those that came back, which it offered to `give`. It made no other event. For each of so many workers it put a stop, but
-- for those that came back. What came back, lease or stop, the queue handed back: it came of no other cause.
pub record Dispatches (v w : PassState) (old new : List ℕ) (workers stops : ℕ) : Type 0 where
  pub put : List (ℕ × ℕ)
  pub back : ℕ
  pub given : ℕ
  pub stops_back : ℕ
  pub passes : w ≡ pass_state v.parts (v.put ++ put) v.taken (v.stops_put + stops) v.stops_taken (v.handed_back + (back + stops_back))
  pub fresh : AreFresh put
  pub few : given ≤ back
  pub lent : new ≡ raised (place_of event.Give) given (raised (place_of event.Lend) (length put + back) old)
  pub each : stops + stops_back ≡ workers

-- Between two moments a stop was put for each of so many workers, but for those that the queue handed back.
pub record HasStopped (v w : PassState) (workers stops : ℕ) : Type 0 where
  pub back : ℕ
  pub passes : w ≡ pass_state v.parts v.put v.taken (v.stops_put + stops) v.stops_taken (v.handed_back + back)
  pub each : stops + back ≡ workers
