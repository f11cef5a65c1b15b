-- What the decision of a transaction in doubt leaves.
use Rattle.std.specs.Prelude.{◌≡◌, ◌==◌, ◌⊎◌, ℕ, ◌<◌, Bool, true, false, not, ◌&&◌, List, [], ◌∷◌, ◌++◌, length, take, filter, slice_index_or, Some}
use Rattle.als_record.specs.declared.record.Record.{Record}
use Rattle.als_record.specs.declared.trans_id.TransId.{TransId}
use Rattle.als_record.specs.declared.transaction_row.TransactionRow.{TransactionRow}
use Rattle.als_record.specs.LogText.{end_of}
use Rattle.als_record.specs.Table.{is_prepared}
use Rattle.als_record.specs.Transactions.{is_in_doubt, in_doubt, is_unended}
use Rattle.als_record.specs.Validity.{IsValidLog}
use Rattle.als_record.specs.Commits.{Commit, commits_of, writes_of}
use Rattle.als_record.specs.Tail.{tail_of, decision}
use Rattle.als_store.specs.declared.decision.Decision.{Decision}
use Rattle.als_store.specs.declared.decision.Decision.TheVariants as decision_of
use Rattle.als_store.specs.Takeover.{decision_body, is_following}
use Rattle.als_engine.specs.declared.fault.Fault.TheVariants.{Sealed}
use Rattle.als_engine.specs.Machine.{Machine}
use Rattle.als_engine.specs.Refusals.{feed_refusal}
use Rattle.als_engine.specs.Feeds.{grown}
use Rattle.als_writer.specs.declared.not_decided.NotDecided.{NotDecided}
use Rattle.als_writer.specs.declared.not_decided.NotDecided.TheVariants.{NotInDoubt, Untidy, State, Memory}
use Rattle.als_writer.specs.declared.written.Written.{Written}
use Rattle.als_writer.specs.Tidying.{tidied_to}

-- the record that decides a transaction, where the log ends
abbrev pub deciding : List Record → TransId → Decision → Record
deciding log trans verdict = decision log trans.0 (decision_body verdict)

-- the commits that a decision adds: of a commit this one, with what the transaction wrote; of a rollback none
abbrev pub commits_by : List Record → TransId → Decision → List Commit
commits_by log trans decision_of.Commit = record { trans = trans; lsn = record { 0 = end_of log }; writes = writes_of log trans.0 } ∷ []
commits_by log trans decision_of.Rollback = []

-- a row of the transaction table says that the transaction is in doubt
abbrev pub doubts_it : TransId → TransactionRow → Bool
doubts_it trans row = (row.trans.0 == trans.0) && is_prepared row.state

-- such a row among these
pub record IsRowOf (rows : List TransactionRow) (trans : TransId) (row : TransactionRow) : Type 0 where
  pub i : ℕ
  pub within : i < length rows
  pub at : row ≡ slice_index_or rows i row
  pub is : doubts_it trans row ≡ true

-- the record decides the transaction, which is in doubt; no part of a record waits, and nothing is owed
pub record IsDecision (m : Machine) (trans : TransId) (verdict : Decision) (r : Record) : Type 0 where
  pub partial : m.partial ≡ []
  pub owed : tail_of m.held.log ≡ []
  pub valid : IsValidLog m.held.pages m.held.log
  pub doubted : is_in_doubt m.held.log trans.0 ≡ true
  pub is : r ≡ deciding m.held.log trans verdict

-- The transaction was in doubt, and the record that decides it is held. It is not in doubt any more, and the others are as they were. A
-- commit adds its commit, with what it wrote, and a rollback adds none.
pub record IsDecided (old : Machine) (trans : TransId) (verdict : Decision) (w : Written) (new : Machine) : Type 0 where
  pub valid : IsValidLog old.held.pages old.held.log
  pub doubted : is_in_doubt old.held.log trans.0 ≡ true
  pub tidy : tail_of old.held.log ≡ []
  pub after : new ≡ record old { held = grown old.held (deciding old.held.log trans verdict ∷ []) }
  pub trans_is : w.trans ≡ trans
  pub lsn : w.lsn.0 ≡ end_of old.held.log
  pub end : w.end.0 ≡ end_of (old.held.log ++ deciding old.held.log trans verdict ∷ [])
  pub commits : commits_of new.held.log ≡ commits_of old.held.log ++ commits_by old.held.log trans verdict
  pub decided : is_in_doubt new.held.log trans.0 ≡ false
  pub doubts : in_doubt new.held.log ≡ filter (λ x. not (x == trans.0)) (in_doubt old.held.log)

-- the log has a front of what was owed, and no commit came
pub record AddsOwed (old new : Machine) : Type 0 where
  pub n : ℕ
  pub front : (new ≡ old) ⊎ (new ≡ tidied_to n old)
  pub log : new.held.log ≡ old.held.log ++ take n (tail_of old.held.log)
  pub commits : commits_of new.held.log ≡ commits_of old.held.log

-- Behind the record is what it leaves to be appended, the end or the compensations and the end: all of it, or a front for want of memory,
-- of which `tidy` writes the rest. Once nothing is owed the transaction has ended.
pub record Decides (old : Machine) (trans : TransId) (verdict : Decision) (w : Written) (new : Machine) : Type 0 where
  pub mid : Machine
  pub decided : IsDecided old trans verdict w mid
  pub n : ℕ
  pub log : new.held.log ≡ mid.held.log ++ take n (tail_of mid.held.log)
  pub commits : commits_of new.held.log ≡ commits_of old.held.log ++ commits_by old.held.log trans verdict
  pub doubts : in_doubt new.held.log ≡ filter (λ x. not (x == trans.0)) (in_doubt old.held.log)
  pub published : new.published ≡ old.published
  pub ended : tail_of new.held.log ≡ [] → is_unended new.held.log trans.0 ≡ false

-- why a transaction is not decided
abbrev pub DecisionRefused : Machine → TransId → NotDecided → Type 0
DecisionRefused m trans NotInDoubt = is_in_doubt m.held.log trans.0 ≡ false
DecisionRefused m trans Untidy = (m.partial ≡ [] → ⊥) ⊎ (tail_of m.held.log ≡ [] → ⊥)
DecisionRefused m trans (State f) = (feed_refusal m ≡ Some f) ⊎ ((f ≡ Sealed) × (is_following m.held ≡ false))
DecisionRefused m trans Memory = Unit {0}
