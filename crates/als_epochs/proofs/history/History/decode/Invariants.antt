use Rattle.std.proofs.Common.{◌≡◌, ◌++◌, length}
use Rattle.als_epochs.specs.Histories.{seals_bytes, IsHistory}
use Rattle.als_epochs.proofs.history.History.decode.Given as goal

abbrev pub invariant-loop : goal.invariant-loop
invariant-loop l = record {
  told : seals_bytes l.history ++ l.rest ≡ l.bytes;
  len : length l.history ≡ l.counter;
  history : IsHistory l.history;
}
