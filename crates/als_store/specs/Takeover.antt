-- A takeover: the log at its seal, and what of its tail stands behind it.
use Rattle.std.specs.Prelude.{◌≡◌, ◌⊎◌, ℕ, ◌+◌, ◌≤◌, ◌<◌, nat_le, Bool, true, false, ◌&&◌, List, [], ◌∷◌, ◌++◌, Contains, None, slice_index_or}
use Rattle.als_record.specs.declared.key.Key.{Key}
use Rattle.als_record.specs.declared.lsn.Lsn.{Lsn}
use Rattle.als_record.specs.declared.record.Body.{Body}
use Rattle.als_record.specs.declared.record.Body.TheVariants.{Commit, Rollback}
use Rattle.als_record.specs.declared.record.Record.{Record}
use Rattle.als_record.specs.Spelling.{Image}
use Rattle.als_record.specs.LogText.{end_of}
use Rattle.als_record.specs.Images.{kept}
use Rattle.als_record.specs.Pages.{page_at}
use Rattle.als_record.specs.Table.{table_of, is_closed}
use Rattle.als_record.specs.Tail.{tail_of, is_undone, decision}
use Rattle.als_log.specs.Local.{Local}
use Rattle.als_log.specs.Outcomes.{ReadFails}
use Rattle.als_frames.specs.Images.{lsn_now}
use Rattle.als_ckpt.specs.declared.phase.Phase.{Phase}
use Rattle.als_ckpt.specs.declared.phase.Phase.TheVariants.{Following, Sealed, Primary}
use Rattle.als_ckpt.specs.declared.control_state.ControlState.{ControlState}
use Rattle.als_ckpt.specs.Control.{phase_byte, last_state, IsSeal}
use Rattle.als_epochs.specs.Histories.{Takes}
use Rattle.als_epochs.specs.Histories.{GoesOn as HistoryGoesOn}
pub use Rattle.als_reopen.specs.Taken.{follows}
use Rattle.als_reopen.specs.Taken.{AreDecided, Decides, IsNextOfTail, IsTakenFrom, WasTakenFrom, IsUndecided}
use Rattle.als_store.specs.declared.decision.Decision.{Decision}
use Rattle.als_store.specs.declared.decision.Decision.TheVariants as decision_of
use Rattle.als_store.specs.declared.fault.Fault.{Fault}
use Rattle.als_store.specs.declared.fault.Fault.TheVariants as fault
use Rattle.als_store.specs.Spare.{Spare, HasSpare}
use Rattle.als_store.specs.Stored.{Stored, newest, acknowledged, with_records, pending_of}
use Rattle.als_store.specs.Events.{FailsToRead}

-- ---- phases

abbrev pub is_done : Phase → Bool
is_done Following = false
is_done Sealed = false
is_done Primary = true

-- the log still follows its source: the newest control state is in the first phase
abbrev pub is_following : Stored → Bool
is_following s = follows (newest s).phase

-- the takeover is done: the newest control state is in the last phase
abbrev pub is_primary : Stored → Bool
is_primary s = is_done (newest s).phase

-- ---- one takeover log

-- From one control state to the next the phase does not fall, past Following the seal stays, and the history of the later one goes on from that
-- of the earlier one.
pub record GoesOn (before after : ControlState) : Type 0 where
  pub phase : phase_byte before.phase ≤ phase_byte after.phase
  pub seal : 1 < phase_byte before.phase → after.seal ≡ before.seal
  pub history : HistoryGoesOn before.history after.history

-- a control state has no seal while the log follows its source; from then on it has one, at or below the mark
abbrev pub IsSealOf : ControlState → Type 0
IsSealOf c = IsSeal c.phase c.mark.0 c.seal.0

-- so it is along the states of a control block
abbrev pub PhasesRise : ControlState → List ControlState → Type 0
PhasesRise state [] = Unit {0}
PhasesRise state (next ∷ rest) = GoesOn state next × PhasesRise next rest

-- What the newest control state says is true of the log, and what each one that a crash may leave says is true of the log up to its mark.
-- Phases and histories never fall along them and there is one seal. In Primary no change waits for redo until a transaction in doubt is decided, unless
-- the store is recovering.
pub record AreTaken (log : List Record) (synced : ControlState) (since : List ControlState) (recovering : Bool) (waiting : ℕ) : Type 0 where
  pub now : IsTakenFrom log (last_state synced since)
  pub each : (c : ControlState) → Contains (synced ∷ since) c → WasTakenFrom log c
  pub below : (c : ControlState) → Contains (synced ∷ since) c → c.mark.0 ≤ end_of log
  pub phases : PhasesRise synced since
  pub drained : recovering ≡ false → is_done (last_state synced since).phase ≡ true → IsUndecided log (last_state synced since).seal.0 → waiting ≡ 0

abbrev pub IsUnderTakeover : Stored → Type 0
IsUnderTakeover s = AreTaken s.log s.control s.since s.recovering (pending_of s)

-- ---- a finished takeover

-- what a key's slot has in its page as it is now
abbrev pub slot_now : Stored → Key → Image
slot_now s key = slice_index_or (page_at s.log key.page (lsn_now s.pool.frames key.page)).slots key.slot None

-- Until a transaction in doubt is decided the transaction table is closed, and each slot of each page as it is now has what a takeover keeps
-- there: of the log at the seal, which is the same of the whole log.
pub record IsUntouched (s : Stored) (sealed : List Record) : Type 0 where
  pub table : is_closed (table_of s.log) ≡ true
  pub images : (key : Key) → key.page < s.pages → key.slot < 15 → slot_now s key ≡ kept sealed key
  pub same : (key : Key) → kept s.log key ≡ kept sealed key

-- The log is the one at the seal with its tail, and what was decided since of the transactions in doubt. Until the first decision the store
-- is as the takeover left it. From then on, where nothing of a tail is left to append and no change waits for redo, each slot of each page
-- as it is now has what a takeover keeps there of the whole log.
pub record IsFinished (s : Stored) : Type 0 where
  pub sealed : List Record
  pub more : List Record
  pub ends : end_of sealed ≡ (newest s).seal.0
  pub parts : s.log ≡ (sealed ++ tail_of sealed) ++ more
  pub decided : AreDecided (sealed ++ tail_of sealed) more
  pub untouched : more ≡ [] → IsUntouched s sealed
  pub images : is_undone s.log ≡ true → pending_of s ≡ 0 → (key : Key) → key.page < s.pages → key.slot < 15 → slot_now s key ≡ kept s.log key

-- ---- the events

-- one more control state is written, by one write
pub record WritesState (state : ControlState) (old new : Stored) : Type 0 where
  pub after : new ≡ record old { since = old.since ++ state ∷ []; attempts = old.attempts + 1 }

-- that write failed: a crash may leave the state all the same
pub record BreaksState (state : ControlState) (old new : Stored) : Type 0 where
  pub failed : old.failures < new.failures
  pub after : new ≡ record old { since = old.since ++ state ∷ []; broken = true; failures = new.failures; attempts = old.attempts + 1 }

-- the node's history: that of the newest control state
abbrev pub history_of : Stored → List ℕ
history_of s = (newest s).history

-- the log's end can be a seal: the history has room for it, and its last seal is not above it
abbrev pub TakesSeal : Stored → Type 0
TakesSeal s = Takes (history_of s) (end_of s.log)

-- the newest control state, sealed at the log's end, up to which the log is stable and with which the history goes on
abbrev pub sealed_state : Stored → ControlState
sealed_state s = record (newest s) {
  phase = Sealed;
  mark = record { 0 = end_of s.log };
  seal = record { 0 = end_of s.log };
  history = history_of s ++ end_of s.log ∷ [];
}

-- the newest control state, with the history of another node
abbrev pub adopted_state : Stored → List ℕ → ControlState
adopted_state s history = record (newest s) { history = history }

-- the newest control state, with the takeover done
abbrev pub finished_state : Stored → ControlState
finished_state s = record (newest s) { phase = Primary }

-- nothing of the tail is left to append, no change waits for redo, and the whole log is acknowledged
abbrev pub is_drained : Stored → Bool
is_drained s = is_undone s.log && nat_le (pending_of s) 0 && nat_le (end_of s.log) (acknowledged s)

-- the first record of the log's tail is held
pub record UndoesOne (old : Stored) (lsn : Lsn) (new : Stored) : Type 0 where
  pub made : Record
  pub rest : List Record
  pub first : tail_of old.log ≡ made ∷ rest
  pub place : lsn ≡ made.lsn
  pub after : new ≡ with_records old (made ∷ [])

-- no record is held: nothing of the tail is left to append, an allocation failed, or the log device failed in a read
abbrev pub NotUndone : Stored → Fault → Stored → Type 0
NotUndone old fault.NothingToDo new = (is_undone old.log ≡ true) × (new ≡ old)
NotUndone old fault.Memory new = (is_undone old.log ≡ false) × (new ≡ old)
NotUndone old fault.Device new = FailsToRead old new
NotUndone old fault new = ⊥

-- there is room for the next record of the tail
abbrev pub HasRoomToUndo : Stored → Spare → Type 0
HasRoomToUndo s spare = (made : Record) (rest : List Record) → tail_of s.log ≡ made ∷ rest → HasSpare spare made

-- ---- a transaction in doubt is decided

-- the body of the record that decides
abbrev pub decision_body : Decision → Body
decision_body decision_of.Commit = Commit
decision_body decision_of.Rollback = Rollback

-- The next record of the log's tail; or, once the takeover has ended, one that decides a transaction in doubt.
abbrev pub ComesNext : Stored → Record → Type 0
ComesNext s r = IsNextOfTail s.log r ⊎ ((is_primary s ≡ true) × Decides s.log r)

-- the record that commits or rolls back the transaction is held, where it was in doubt
pub record Resolves (old : Stored) (trans : ℕ) (verdict : Decision) (lsn : Lsn) (new : Stored) : Type 0 where
  pub place : lsn.0 ≡ end_of old.log
  pub after : new ≡ with_records old (decision old.log trans (decision_body verdict) ∷ [])

-- there is room for that record
abbrev pub HasRoomToResolve : Stored → ℕ → Decision → Spare → Type 0
HasRoomToResolve s trans verdict spare = HasSpare spare (decision s.log trans (decision_body verdict))

-- What survives of a transaction is not collected: an allocation failed, or the log device failed in a read, and nothing else has changed.
abbrev pub CannotCollect : Fault → Local → Local → Type 0
CannotCollect fault.Memory old new = new ≡ old
CannotCollect fault.Device old new = ReadFails old new
CannotCollect fault old new = ⊥

-- The commit that a commit record of a transaction in doubt would make is not collected: an allocation failed, or the log device failed in a
-- read.
abbrev pub NotCollected : Stored → Fault → Stored → Type 0
NotCollected old fault.Memory new = new ≡ old
NotCollected old fault.Device new = FailsToRead old new
NotCollected old fault new = ⊥
