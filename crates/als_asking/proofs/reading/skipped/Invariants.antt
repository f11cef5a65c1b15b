use Rattle.std.proofs.Common.{◌≡◌, ◌+◌, length}
use Rattle.als_asking.specs.Bodies.{skipped}
use Rattle.als_asking.proofs.reading.skipped.Given as goal

abbrev pub invariant-loop : goal.invariant-loop
invariant-loop l = (skipped l.rest ≡ skipped l.text) × (length l.rest + l.counter ≡ length l.text)
