-- What a transaction that is written leaves, and what one leaves that is not.
use Rattle.std.specs.Prelude.{◌≡◌, ℕ, ◌+◌, ◌⊎◌, true, false, List, [], ◌∷◌, ◌++◌, take, All}
use Rattle.als_record.specs.declared.record.Record.{Record}
use Rattle.als_record.specs.LogText.{end_of}
use Rattle.als_record.specs.Transactions.{greatest_trans}
use Rattle.als_record.specs.Validity.{IsValidLog}
use Rattle.als_record.specs.Commits.{Write, commits_of}
use Rattle.als_record.specs.Tail.{tail_of}
use Rattle.als_writing.specs.Writing.{Commits as Committing, record_for, updates, transaction, rollback, MayWrite}
use Rattle.als_engine.specs.Machine.{Machine}
use Rattle.als_engine.specs.Feeds.{grown}
use Rattle.als_writer.specs.declared.refusal.Refusal.{Refusal}
use Rattle.als_writer.specs.declared.refusal.Refusal.TheVariants.{Memory}
use Rattle.als_writer.specs.declared.transaction.Transaction.{Transaction}
use Rattle.als_writer.specs.declared.written.Written.{Written}
use Rattle.als_writer.specs.Asking.{IsAsked}
use Rattle.als_writer.specs.Refused.{PlanRefused}

-- the updates of a transaction and its commit, without the end
abbrev pub committed : List Record → ℕ → List Write → List Record
committed log t writes = updates log t writes ++ record_for (log ++ updates log t writes) t Committing ∷ []

-- the records of a whole transaction, or all but its end
abbrev pub AreCommitted : List Record → ℕ → List Write → List Record → Type 0
AreCommitted log t writes records = (records ≡ transaction log t writes) ⊎ (records ≡ committed log t writes)

-- The log went on with this transaction and nothing else, whose number is one above the greatest. Its commits are the old ones and this
-- one. By `may` each law of als_writing is true of it.
pub record IsInLog (old : Machine) (t : Transaction) (w : Written) (new : Machine) : Type 0 where
  pub valid : IsValidLog old.held.pages old.held.log
  pub tidy : tail_of old.held.log ≡ []
  pub number : w.trans.0 ≡ greatest_trans old.held.log + 1
  pub may : MayWrite old.held.pages old.held.log w.trans.0 t.sets.items
  pub records : List Record
  pub whole : AreCommitted old.held.log w.trans.0 t.sets.items records
  pub after : new ≡ record old { held = grown old.held records }
  pub lsn : w.lsn.0 ≡ end_of (old.held.log ++ updates old.held.log w.trans.0 t.sets.items)
  pub end : w.end.0 ≡ end_of (old.held.log ++ transaction old.held.log w.trans.0 t.sets.items)
  pub commits : commits_of new.held.log ≡ commits_of old.held.log ++ record { trans = w.trans; lsn = w.lsn; writes = t.sets.items } ∷ []

-- a transaction is written, and each of its asks held of the old log
pub record Commits (old : Machine) (t : Transaction) (w : Written) (new : Machine) : Type 0 where
  pub asked : All (λ a. IsAsked old.held.log a) t.asks.items
  pub in_log : IsInLog old t w new

-- Some of the updates are held and no commit: the commits are the old ones, and what is owed is that they are undone.
pub record IsCut (old : Machine) (t : Transaction) (new : Machine) : Type 0 where
  pub number : ℕ
  pub n : ℕ
  pub above : number ≡ greatest_trans old.held.log + 1
  pub may : MayWrite old.held.pages old.held.log number t.sets.items
  pub after : new ≡ record old { held = grown old.held (take n (updates old.held.log number t.sets.items)) }
  pub commits : commits_of new.held.log ≡ commits_of old.held.log
  pub owed : tail_of new.held.log ≡ rollback new.held.log number (take n (updates old.held.log number t.sets.items))

-- a transaction that was planned is not written: only for want of memory
abbrev pub FeedRefused : Machine → Transaction → Refusal → Machine → Type 0
FeedRefused old t (Memory true) new = IsCut old t new
FeedRefused old t (Memory false) new = new ≡ old
FeedRefused old t _ new = ⊥

-- a transaction is not written
abbrev pub NotWritten : Machine → Transaction → Refusal → Machine → Type 0
NotWritten old t (Memory true) new = IsCut old t new
NotWritten old t refusal new = (new ≡ old) × PlanRefused old t refusal
