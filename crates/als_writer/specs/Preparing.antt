-- What a transaction that prepares leaves, and what one leaves that does not.
use Rattle.std.specs.Prelude.{◌≡◌, ◌+◌, true, [], ◌∷◌, ◌++◌, All}
use Rattle.als_record.specs.LogText.{end_of}
use Rattle.als_record.specs.Transactions.{greatest_trans, in_doubt, is_in_doubt}
use Rattle.als_record.specs.Validity.{IsValidLog}
use Rattle.als_record.specs.Commits.{commits_of, writes_of}
use Rattle.als_record.specs.Tail.{tail_of}
use Rattle.als_writing.specs.Writing.{updates, prepared, MayWrite}
use Rattle.als_engine.specs.Machine.{Machine}
use Rattle.als_engine.specs.Feeds.{grown}
use Rattle.als_writer.specs.declared.refusal.Refusal.{Refusal}
use Rattle.als_writer.specs.declared.refusal.Refusal.TheVariants.{Memory}
use Rattle.als_writer.specs.declared.transaction.Transaction.{Transaction}
use Rattle.als_writer.specs.declared.written.Written.{Written}
use Rattle.als_writer.specs.Asking.{IsAsked}
use Rattle.als_writer.specs.Committing.{IsCut}
use Rattle.als_writer.specs.Refused.{PlanRefusedBeside}

-- The log went on with the transaction's updates and its prepare record, and nothing else. Its number is one above the greatest. It is in
-- doubt, and it alone besides those that were, with exactly its sets as what it wrote. No commit came, and nothing is owed. By `may` each
-- law of als_writing is true of it.
pub record IsPrepared (old : Machine) (t : Transaction) (w : Written) (new : Machine) : Type 0 where
  pub valid : IsValidLog old.held.pages old.held.log
  pub tidy : tail_of old.held.log ≡ []
  pub number : w.trans.0 ≡ greatest_trans old.held.log + 1
  pub may : MayWrite old.held.pages old.held.log w.trans.0 t.sets.items
  pub after : new ≡ record old { held = grown old.held (prepared old.held.log w.trans.0 t.sets.items) }
  pub lsn : w.lsn.0 ≡ end_of (old.held.log ++ updates old.held.log w.trans.0 t.sets.items)
  pub end : w.end.0 ≡ end_of (old.held.log ++ prepared old.held.log w.trans.0 t.sets.items)
  pub commits : commits_of new.held.log ≡ commits_of old.held.log
  pub doubts : in_doubt new.held.log ≡ in_doubt old.held.log ++ w.trans.0 ∷ []
  pub doubted : is_in_doubt new.held.log w.trans.0 ≡ true
  pub writes : writes_of new.held.log w.trans.0 ≡ t.sets.items
  pub owed : tail_of new.held.log ≡ []

-- a transaction is prepared, and each of its asks held of the old log
pub record Prepares (old : Machine) (t : Transaction) (w : Written) (new : Machine) : Type 0 where
  pub asked : All (λ a. IsAsked old.held.log a) t.asks.items
  pub in_log : IsPrepared old t w new

-- A transaction is not prepared. The causes are those by which one is not written, but that it takes 56 bytes more: its prepare record, and
-- the reserve for a rollback record.
abbrev pub NotPrepared : Machine → Transaction → Refusal → Machine → Type 0
NotPrepared old t (Memory true) new = IsCut old t new
NotPrepared old t refusal new = (new ≡ old) × PlanRefusedBeside 56 old t refusal
