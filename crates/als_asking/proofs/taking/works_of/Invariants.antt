use Rattle.std.proofs.Common.{◌≡◌, ◌++◌, map}
use Rattle.als_asking.specs.Taking.{work_of}
use Rattle.als_asking.proofs.taking.works_of.Given as goal

abbrev pub invariant-loop-transaction : goal.invariant-loop-transaction
invariant-loop-transaction l =
    (l.works.items ≡ map (work_of l.manner) l.yielded) × (l.yielded ++ l.transaction-iterator.rest.items ≡ l.fn.transactions.items)
