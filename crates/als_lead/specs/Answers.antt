-- What an answer says of the log, and when it is true.
use Rattle.std.specs.Prelude.{◌≡◌, ◌≤◌, ◌⊎◌, true, List, [], ◌∷◌, ◌++◌, All, map}
use Rattle.als_record.specs.declared.record.Record.{Record}
use Rattle.als_record.specs.declared.trans_id.TransId.{TransId}
use Rattle.als_record.specs.LogText.{end_of}
use Rattle.als_record.specs.Transactions.{is_in_doubt}
use Rattle.als_record.specs.Commits.{Commit, commits_of}
use Rattle.als_writing.specs.Writing.{updates, transaction, prepared, MayWrite}
use Rattle.als_store.specs.declared.decision.Decision.{Decision}
use Rattle.als_store.specs.Stored.{acknowledged}
use Rattle.als_engine.specs.declared.fault.Fault.{Fault}
use Rattle.als_engine.specs.Machine.{Machine}
use Rattle.als_writer.specs.declared.not_decided.NotDecided.TheVariants as undecided
use Rattle.als_writer.specs.declared.refusal.Refusal.TheVariants as refusal
use Rattle.als_writer.specs.declared.transaction.Transaction.{Transaction}
use Rattle.als_writer.specs.declared.work.Work.{Work}
use Rattle.als_writer.specs.declared.work.Work.TheVariants as work
use Rattle.als_writer.specs.declared.written.Written.{Written}
use Rattle.als_writer.specs.Asking.{IsAsked}
use Rattle.als_writer.specs.Refused.{ShowsFailing}
use Rattle.als_writer.specs.Committing.{committed, NotWritten}
use Rattle.als_writer.specs.Preparing.{NotPrepared}
use Rattle.als_writer.specs.Deciding.{deciding, commits_by, DecisionRefused}
use Rattle.als_lead.specs.declared.asked.Asked.{Asked}
use Rattle.als_lead.specs.declared.answer.Answer.{Answer}
use Rattle.als_lead.specs.declared.answer.Answer.TheVariants.{Committed, Prepared, Decided, Refused, NotDecided, Unknown, Withheld}
use Rattle.als_lead.specs.declared.told.Told.{Told}
use Rattle.als_lead.specs.Going.{Grows}

-- ---- what is written

-- the commit of a transaction that was written
abbrev pub commit_by : Transaction → Written → Commit
commit_by t w = record { trans = w.trans; lsn = w.lsn; writes = t.sets.items }

-- A transaction is in the log: its updates and its commit record at the LSN that is answered, behind a front of which each of its asks held and
-- behind which it might write them. The end that is answered is where its last record ends, behind the commit; that record may still be owed. Its
-- commit is the next one behind those of that front.
pub record IsIn (m : Machine) (t : Transaction) (w : Written) : Type 0 where
  pub past : List Record
  pub rest : List Record
  pub later : List Commit
  pub log : m.held.log ≡ past ++ committed past w.trans.0 t.sets.items ++ rest
  pub may : MayWrite m.held.pages past w.trans.0 t.sets.items
  pub lsn : w.lsn.0 ≡ end_of (past ++ updates past w.trans.0 t.sets.items)
  pub end : w.end.0 ≡ end_of (past ++ transaction past w.trans.0 t.sets.items)
  pub asked : All (λ a. IsAsked past a) t.asks.items
  pub commits : commits_of m.held.log ≡ commits_of past ++ commit_by t w ∷ later

-- A transaction was prepared: its updates and its prepare record are in the log, behind a front of which each of its asks held and behind
-- which it might write them. Whether it is still in doubt is not said, since a later decision ends that.
pub record IsPreparedIn (m : Machine) (t : Transaction) (w : Written) : Type 0 where
  pub past : List Record
  pub rest : List Record
  pub log : m.held.log ≡ past ++ prepared past w.trans.0 t.sets.items ++ rest
  pub may : MayWrite m.held.pages past w.trans.0 t.sets.items
  pub lsn : w.lsn.0 ≡ end_of (past ++ updates past w.trans.0 t.sets.items)
  pub end : w.end.0 ≡ end_of (past ++ prepared past w.trans.0 t.sets.items)
  pub asked : All (λ a. IsAsked past a) t.asks.items

-- a transaction was decided: the record that says so is in the log, behind a front in which it was in doubt
pub record IsDecidedIn (m : Machine) (trans : TransId) (verdict : Decision) (w : Written) : Type 0 where
  pub past : List Record
  pub rest : List Record
  pub log : m.held.log ≡ past ++ deciding past trans verdict ∷ rest
  pub doubted : is_in_doubt past trans.0 ≡ true
  pub trans_is : w.trans ≡ trans
  pub lsn : w.lsn.0 ≡ end_of past
  pub end : w.end.0 ≡ end_of (past ++ deciding past trans verdict ∷ [])

-- what was asked for is in the log
abbrev pub IsWritten : Machine → Work → Written → Type 0
IsWritten m (work.Commit t) w = IsIn m t w
IsWritten m (work.Prepare t) w = IsPreparedIn m t w
IsWritten m (work.Decide trans verdict) w = IsDecidedIn m trans verdict w

-- it is, and acknowledged to the end of its last record
pub record IsDurable (m : Machine) (asked : Work) (w : Written) : Type 0 where
  pub written : IsWritten m asked w
  pub durable : w.end.0 ≤ acknowledged m.held

-- a log has this commit
pub record HasCommit (log : List Record) (commit : Commit) : Type 0 where
  pub earlier : List Commit
  pub later : List Commit
  pub is : commits_of log ≡ earlier ++ commit ∷ later

-- ---- what it adds to the commits of the log

-- a decision in a log adds its commit, with what the transaction had written before it; of a rollback none
pub record AddsDecided (log : List Record) (trans : TransId) (verdict : Decision) (w : Written) (commits : List Commit) : Type 0 where
  pub past : List Record
  pub rest : List Record
  pub front : log ≡ past ++ rest
  pub ends : end_of past ≡ w.lsn.0
  pub are : commits ≡ commits_by past trans verdict

-- what is written adds a transaction's commit, or that of a decision; of one that prepares none
abbrev pub AddsWritten : List Record → Work → Written → List Commit → Type 0
AddsWritten log (work.Commit t) w commits = commits ≡ commit_by t w ∷ []
AddsWritten log (work.Prepare t) w commits = commits ≡ []
AddsWritten log (work.Decide trans verdict) w commits = AddsDecided log trans verdict w commits

-- what an answer adds
abbrev pub AddsBy : List Record → Work → Answer → List Commit → Type 0
AddsBy log asked (Committed w) commits = AddsWritten log asked w commits
AddsBy log asked (Prepared w) commits = AddsWritten log asked w commits
AddsBy log asked (Decided w) commits = AddsWritten log asked w commits
AddsBy log asked (Refused r) commits = commits ≡ []
AddsBy log asked (NotDecided r) commits = commits ≡ []
AddsBy log asked (Unknown w) commits = AddsWritten log asked w commits
AddsBy log asked Withheld commits = commits ≡ []

-- what answers add, in order
abbrev pub Adds : List Record → List Told → List Commit → Type 0
Adds log [] commits = commits ≡ []
Adds log (x ∷ xs) commits = (these : List Commit) × (those : List Commit) × (commits ≡ these ++ those) × AddsBy log x.asked.work x.answer these × Adds log xs those

-- ---- what is not written

-- what a refusal leaves of a transaction that commits or prepares, of whose asks it shows the first that failed, and of a decision
abbrev pub IsNotDone : Machine → Work → Answer → Machine → Type 0
IsNotDone old (work.Commit t) (Refused r) new = NotWritten old t r new × ShowsFailing old.held.log t.asks.items r
IsNotDone old (work.Prepare t) (Refused r) new = NotPrepared old t r new × ShowsFailing old.held.log t.asks.items r
IsNotDone old (work.Decide trans verdict) (NotDecided r) new = (new ≡ old) × DecisionRefused old trans r
IsNotDone old _ _ new = ⊥

-- What was asked for was refused by a machine that this one goes on from: `before` it was asked, and `after` nothing but the front of a cut
-- transaction is behind.
pub record WasRefused (m : Machine) (asked : Work) (answer : Answer) : Type 0 where
  pub before : Machine
  pub after : Machine
  pub refused : IsNotDone before asked answer after
  pub grown : Grows before after
  pub goes_on : Grows after m

-- what it was refused by is acknowledged: no crash takes that back
pub record IsRefused (m : Machine) (asked : Work) (answer : Answer) : Type 0 where
  pub was : WasRefused m asked answer
  pub stable : end_of was.after.held.log ≤ acknowledged m.held

-- the leader has ended, and refuses a transaction or a decision with why
abbrev pub IsEnded : Work → Answer → Type 0
IsEnded (work.Commit t) (Refused r) = (f : Fault) × (r ≡ refusal.State f)
IsEnded (work.Prepare t) (Refused r) = (f : Fault) × (r ≡ refusal.State f)
IsEnded (work.Decide trans verdict) (NotDecided r) = (f : Fault) × (r ≡ undecided.State f)
IsEnded _ _ = ⊥

-- ---- what is answered

-- the answer to what is written: each kind of work has its own
abbrev pub IsFor : Work → Answer → Type 0
IsFor (work.Commit t) (Committed w) = Unit {0}
IsFor (work.Prepare t) (Prepared w) = Unit {0}
IsFor (work.Decide trans verdict) (Decided w) = Unit {0}
IsFor _ _ = ⊥

-- An answer is true of a machine. One of another kind than what was asked for never is. Of what is withheld nothing is said but that no commit
-- came.
abbrev pub IsTrueAnswer : Machine → Work → Answer → Type 0
IsTrueAnswer m asked (Committed w) = IsFor asked (Committed w) × IsDurable m asked w
IsTrueAnswer m asked (Prepared w) = IsFor asked (Prepared w) × IsDurable m asked w
IsTrueAnswer m asked (Decided w) = IsFor asked (Decided w) × IsDurable m asked w
IsTrueAnswer m asked (Refused r) = IsRefused m asked (Refused r) ⊎ IsEnded asked (Refused r)
IsTrueAnswer m asked (NotDecided r) = IsRefused m asked (NotDecided r) ⊎ IsEnded asked (NotDecided r)
IsTrueAnswer m asked (Unknown w) = IsWritten m asked w
IsTrueAnswer m asked Withheld = Unit {0}

abbrev pub IsTrueOf : Machine → Told → Type 0
IsTrueOf m told = IsTrueAnswer m told.asked.work told.answer

-- each one was asked by the seat that its answer goes to
abbrev pub asked_of : List Told → List Asked
asked_of told = map (λ (x : Told). x.asked) told
