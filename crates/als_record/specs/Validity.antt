-- Which record may follow a log, and so which logs are valid.
use Rattle.std.specs.Prelude.{ℕ, ◌==◌, nat_lt, nat_le, Bool, true, false, not, ◌&&◌, ◌||◌, IsTrue, List, [], ◌∷◌, ◌++◌, length, Option, Some, None, is_some, is_none, option_map, fold, find, if◌then◌else◌}
use Rattle.als_record.specs.declared.trans_id.TransId.{TransId}
use Rattle.als_record.specs.declared.record.Body.{Body}
use Rattle.als_record.specs.declared.record.Body.TheVariants.{Update, Compensation, Commit, Rollback, BeginCheckpoint, EndCheckpoint, Prepare}
use Rattle.als_record.specs.declared.record.Record.{Record}
use Rattle.als_record.specs.declared.cause.Cause.{Cause}
use Rattle.als_record.specs.declared.cause.Cause.TheVariants.{BadPrev, OldTransaction, WrongState, WrongUndoNext, WrongCompensation, RecordHeld, BeforeImage, TooManyTransactions, BadCheckpoint}
use Rattle.als_record.specs.LogText.{end_of, IsLog}
use Rattle.als_record.specs.Transactions.{is_transactional, is_decision, is_end, is_some_left, to_undo, is_committed, has_rollback, is_unended, is_open, is_in_doubt, last_lsn, unended, greatest_trans, all_surviving}
use Rattle.als_record.specs.Images.{same_image, image_now, is_update_at, image_before}

-- the PrevLSN that the next record of a transaction carries
unfoldable pub prev_of : List Record → ℕ → ℕ
prev_of log t = if is_unended log t then last_lsn log t else 0

-- 8: PrevLSN does not name the record before it of the same transaction
unfoldable pub bad_prev : List Record → Record → Bool
bad_prev log r = is_transactional r.body && not (r.prev.0 == prev_of log r.trans.0)

-- 9: a transaction that has ended, or a new one whose TransID does not rise above all of the log
unfoldable pub old_transaction : List Record → Record → Bool
old_transaction log r = is_transactional r.body && not (is_unended log r.trans.0) && nat_le r.trans.0 (greatest_trans log)

-- a record that a transaction which rolls back may not write
abbrev pub is_forward : Body → Bool
is_forward (Update key before after) = true
is_forward Commit = true
is_forward Rollback = true
is_forward Prepare = true
is_forward _ = false

-- 10: committed and more than the end; rolling back and more than compensations and the end; in doubt and more than the
-- decision, which is a commit or a rollback; an end that leaves an update which is neither committed nor compensated
unfoldable pub wrong_state : List Record → Record → Bool
wrong_state log r =
    (is_committed log r.trans.0 && not (is_end r.body))
    || (has_rollback log r.trans.0 && not (is_committed log r.trans.0) && is_forward r.body)
    || (is_in_doubt log r.trans.0 && not (is_decision r.body))
    || (is_end r.body && not (is_committed log r.trans.0) && is_some_left (to_undo log r.trans.0))

-- whether a compensation of the update goes on where the update's PrevLSN says
abbrev pub goes_on_after : List Record → Body → Bool
goes_on_after (u ∷ rest) (Compensation undo_next key after) = undo_next.0 == u.prev.0
goes_on_after _ _ = true

-- 11: a compensation with an update to undo, which it does not pass over exactly
unfoldable pub wrong_undo_next : List Record → Record → Bool
wrong_undo_next log r = not (goes_on_after (to_undo log r.trans.0) r.body)

-- whether a compensation undoes the newest update to undo: its key gets its before image back
abbrev pub undoes_newest : List Record → Body → Bool
undoes_newest [] (Compensation undo_next key after) = false
undoes_newest (u ∷ rest) (Compensation undo_next key after) = is_update_at key u.body && same_image after (image_before u.body)
undoes_newest _ _ = true

-- 12: a compensation of anything else
unfoldable pub wrong_compensation : List Record → Record → Bool
wrong_compensation log r = not (undoes_newest (to_undo log r.trans.0) r.body)

-- The transaction that holds an update's key: another open transaction, with a surviving update of that key. In a
-- valid log there is at most one, since each update was admitted only where no other open one had one.
abbrev pub holder : List Record → ℕ → Body → Option Record
holder log t (Update key before after) = find (λ u. is_update_at key u.body && not (u.trans.0 == t) && is_open log u.trans.0) (all_surviving log)
holder log t _ = None

-- 13: an update of a key that is held
unfoldable pub held_by : List Record → Record → Option TransId
held_by log r = option_map (λ u. u.trans) (holder log r.trans.0 r.body)

-- whether an update saw what its key has
abbrev pub saw_now : List Record → Body → Bool
saw_now log (Update key before after) = same_image before (image_now log key)
saw_now log _ = true

-- 14: an update whose before image is another
unfoldable pub before_image : List Record → Record → Bool
before_image log r = not (saw_now log r.body)

-- 15: more than 256 transactions would be unended
unfoldable pub too_many : List Record → Record → Bool
too_many log r = nat_lt 256 (length (unended (log ++ r ∷ [])))

-- the begin_chkpt that no end_chkpt follows yet, after one more record
abbrev pub checkpoint_after : ℕ → ℕ → Body → ℕ
checkpoint_after begun lsn BeginCheckpoint = lsn
checkpoint_after begun lsn (EndCheckpoint transactions pages) = 0
checkpoint_after begun lsn _ = begun

-- the LSN of the last begin_chkpt, where no end_chkpt follows it; 0 otherwise
unfoldable pub open_checkpoint : List Record → ℕ
open_checkpoint log = fold (λ begun r. checkpoint_after begun r.lsn.0 r.body) 0 log

-- a checkpoint's record names no transaction; the end names the begin that is open as the record before it
abbrev pub fits_checkpoints : ℕ → Record → Body → Bool
fits_checkpoints begun r BeginCheckpoint = (r.trans.0 == 0) && (r.prev.0 == 0)
fits_checkpoints begun r (EndCheckpoint transactions pages) = (r.trans.0 == 0) && (r.prev.0 == begun) && not (begun == 0)
fits_checkpoints begun r _ = true

-- 16: a checkpoint's record that does not fit those before it
unfoldable pub bad_checkpoint : List Record → Record → Bool
bad_checkpoint log r = not (fits_checkpoints (open_checkpoint log) r r.body)

-- Why a record may not follow a log: the first cause in the order of their numbers; None where it may.
unfoldable pub first_bad : List Record → Record → Option Cause
first_bad log r =
    if bad_prev log r then Some BadPrev
    else if old_transaction log r then Some OldTransaction
    else if wrong_state log r then Some WrongState
    else if wrong_undo_next log r then Some WrongUndoNext
    else if wrong_compensation log r then Some WrongCompensation
    else if is_some (held_by log r) then option_map RecordHeld (held_by log r)
    else if before_image log r then Some BeforeImage
    else if too_many log r then Some TooManyTransactions
    else if bad_checkpoint log r then Some BadCheckpoint
    else None

-- a record that may follow: it stands where the log ends, and no cause speaks against it
unfoldable pub may_follow : List Record → Record → Bool
may_follow log r = (r.lsn.0 == end_of log) && is_none (first_bad log r)

-- each of these records may follow the log with those before it
unfoldable pub may_follow_all : List Record → List Record → Bool
may_follow_all log [] = true
may_follow_all log (r ∷ rest) = may_follow log r && may_follow_all (log ++ r ∷ []) rest

-- each record of the log may follow those before it
unfoldable pub is_valid : List Record → Bool
is_valid log = may_follow_all [] log

-- A valid log of a database with this many pages, which a text can hold.
pub record IsValidLog (pages : ℕ) (log : List Record) : Type 0 where
  pub text : IsLog pages log
  pub valid : IsTrue (is_valid log)
