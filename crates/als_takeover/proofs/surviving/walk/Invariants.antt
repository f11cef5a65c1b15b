use Rattle.std.proofs.Common.{◌≡◌, ◌≤◌, ℕ, ◌++◌, length, true}
use Rattle.std.specs.Prelude.{vec_capacity}
use Rattle.als_record.specs.Transactions.{to_undo}
use Rattle.als_record.specs.UndoChain.{undo_chain, backwards}
use Rattle.als_record.specs.Validity.{is_valid}
use Rattle.als_takeover.proofs.surviving.walk.Given as goal

-- What was met and what the chain has still to meet are what is to be undone.
abbrev pub invariant-walk : goal.invariant-walk
invariant-walk g l = record {
  met : (t : ℕ) → is_valid l.fn.log.log ≡ true → undo_chain l.fn.from (backwards l.fn.log.log t) ≡ to_undo l.fn.log.log t → length (to_undo l.fn.log.log t) ≡ l.fn.count → to_undo l.fn.log.log t ≡ l.updates.items ++ undo_chain l.here (backwards l.fn.log.log t);
  same : l.log ≡ l.fn.log;
  room : l.fn.count ≤ vec_capacity l.updates;
}

abbrev pub decreases-walk : goal.decreases-walk
decreases-walk g l = l.here
