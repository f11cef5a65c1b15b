use Rattle.std.proofs.Common.{◌≡◌, ◌≤◌, ◌+◌, ◌-◌, ℕ, List, length}
use Rattle.std.specs.Io.KnownBytes.{Consumes}
use Rattle.als_backup.specs.Filled.{KeepsFrontOf}
use Rattle.als_backup.proofs.filling.feed_all.Given as goal

abbrev pub invariant-loop-at : goal.invariant-loop-at
invariant-loop-at g l = record {
  fed : (text : List ℕ) × (l.at ≡ 16 + length text) × Consumes (g.R.Read.remaining l.fn.reader) (g.R.Read.remaining l.reader) text
      × (g.E.Events.alone → KeepsFrontOf l.epoch 16 text (g.E.Events.machine l.fn.events) (g.E.Events.machine l.events));
  within : l.at ≤ l.end;
  room : length l.room ≡ 65536;
}

abbrev pub decreases-loop-at : goal.decreases-loop-at
decreases-loop-at g l = l.end - l.at
