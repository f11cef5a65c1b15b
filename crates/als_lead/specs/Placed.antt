-- A commit that was answered, as a record of the log.
use Rattle.std.specs.Prelude.{◌≡◌, ◌≤◌, ℕ, true, List, [], ◌∷◌, ◌++◌, take}
use Rattle.als_record.specs.declared.record.Record.{Record}
use Rattle.als_record.specs.LogText.{log_text, end_of, IsLog}
use Rattle.als_record.specs.Transactions.{is_commit}
use Rattle.als_record.specs.Commits.{Commit, writes_of}
use Rattle.als_store.specs.Stored.{acknowledged}
use Rattle.als_engine.specs.Machine.{Machine}
use Rattle.als_ship.specs.Follows.{IsFront}
use Rattle.als_writer.specs.declared.transaction.Transaction.{Transaction}
use Rattle.als_writer.specs.declared.written.Written.{Written}
use Rattle.als_lead.specs.Answers.{commit_by}

-- what a commit record behind a log commits: what survives of its transaction's writes
abbrev pub commit_at : List Record → Record → Commit
commit_at front r = record { trans = r.trans; lsn = r.lsn; writes = writes_of front r.trans.0 }

-- what no crash takes back of the text of a log
abbrev pub acknowledged_text : Machine → List ℕ
acknowledged_text m = take (acknowledged m.held) (log_text m.held.pages m.held.log)

-- The commit that was answered is that of a record of the log, which ends at or below the end that was answered, and at or below what is
-- acknowledged. Each text that begins with what is acknowledged of the log's begins with that of the log up to the record.
pub record IsCommitOf (m : Machine) (t : Transaction) (w : Written) (front : List Record) (r : Record) : Type 0 where
  pub rest : List Record
  pub log : m.held.log ≡ (front ++ r ∷ []) ++ rest
  pub commits : is_commit r.body ≡ true
  pub commit : commit_at front r ≡ commit_by t w
  pub ends : end_of (front ++ r ∷ []) ≤ w.end.0
  pub durable : end_of (front ++ r ∷ []) ≤ acknowledged m.held
  pub is_log : IsLog m.held.pages (front ++ r ∷ [])
  pub there : (text : List ℕ) → IsFront (acknowledged_text m) text → IsFront (log_text m.held.pages (front ++ r ∷ [])) text
