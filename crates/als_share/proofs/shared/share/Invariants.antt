use Rattle.std.proofs.Common.{◌≡◌, ◌+◌, ◌≤◌}
use Rattle.std.specs.Vec.{vec_len, vec_capacity}
use Rattle.als_engine.specs.Tally.{no_events}
use Rattle.als_share.specs.Ledgers.{AreNew}
use Rattle.als_share.proofs.shared.share.Given as goal

abbrev pub invariant-loop : goal.invariant-loop
invariant-loop g l =
    (l.rest.parts + l.counter ≡ l.count + 1) × (l.rest.tally ≡ no_events) × (vec_len l.shares + 1 ≡ l.counter)
    × (l.count ≤ vec_capacity l.shares) × AreNew l.shares.items
