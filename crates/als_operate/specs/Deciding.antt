-- What the decision of a transaction in doubt makes of a primary.
use Rattle.std.specs.Prelude.{◌≡◌, true, List, [], ◌∷◌, ◌++◌}
use Rattle.als_record.specs.declared.record.Record.{Record}
use Rattle.als_record.specs.declared.trans_id.TransId.{TransId}
use Rattle.als_record.specs.Tail.{tail_of, is_undone, decision}
use Rattle.als_record.specs.Transactions.{is_in_doubt}
use Rattle.als_store.specs.declared.decision.Decision.{Decision}
use Rattle.als_store.specs.Takeover.{decision_body}
use Rattle.als_engine.specs.Machine.{Machine}
use Rattle.als_drive.specs.Driving.{IsDrained}
use Rattle.als_operate.specs.TakingOver.{IsStable}

-- The transaction was in doubt. The log goes on with its commit or rollback record and with the tail that this leaves, and nothing else: no
-- other transaction is decided. All of it is acknowledged and redone.
pub record IsDecided (old : Machine) (trans : TransId) (verdict : Decision) (new : Machine) : Type 0 where
  pub doubted : is_in_doubt old.held.log trans.0 ≡ true
  pub more : List Record
  pub log : new.held.log ≡ old.held.log ++ decision old.held.log trans.0 (decision_body verdict) ∷ more
  pub tail : more ≡ tail_of (old.held.log ++ decision old.held.log trans.0 (decision_body verdict) ∷ [])
  pub undone : is_undone new.held.log ≡ true
  pub stable : IsStable new
  pub drained : IsDrained new
