-- The tail of a log: what a takeover appends, as the undo pass of ARIES does (Mohan et al., TODS 1992, section 6.3): one
-- falling sweep over all losers. The code finds it one record at a time.
use Rattle.std.specs.Prelude.{ℕ, ◌+◌, ◌==◌, Bool, ◌&&◌, ◌||◌, not, List, [], ◌∷◌, ◌++◌, map, filter, sum_by, if◌then◌else◌}
use Rattle.std.specs.List.{list_any}
use Rattle.als_record.specs.declared.lsn.Lsn.{Lsn}
use Rattle.als_record.specs.declared.record.Body.{Body}
use Rattle.als_record.specs.declared.record.Body.TheVariants.{Update, Compensation, End}
use Rattle.als_record.specs.declared.record.Record.{Record}
use Rattle.als_record.specs.Spelling.{image_len, record_len}
use Rattle.als_record.specs.LogText.{end_of}
use Rattle.als_record.specs.Images.{image_before}
use Rattle.als_record.specs.Transactions.{to_undo, is_some_left, is_committed, is_in_doubt, is_loser, is_nobody, last_lsn, unended, in_doubt, all_surviving}

-- one record of a tail, before it has a place: a transaction ends, or an update is undone
pub data TailStep : Type 0 where
  Ends : ℕ → TailStep
  Undoes : Record → TailStep

-- a transaction with nothing to undo: committed, or without a surviving update and not in doubt
unfoldable pub is_finished : List Record → ℕ → Bool
is_finished log t = is_committed log t || (not (is_in_doubt log t) && not (is_some_left (to_undo log t)))

-- an end for each of these transactions
abbrev pub ends : List ℕ → List TailStep
ends ts = map Ends ts

-- each of these updates is undone, and its transaction ends after its last one
unfoldable pub undoes : List Record → List TailStep
undoes [] = []
undoes (u ∷ rest) = Undoes u ∷ (if list_any (λ v. v.trans.0 == u.trans.0) rest then undoes rest else (Ends u.trans.0 ∷ undoes rest))

-- the surviving updates of all losers, in falling LSN
unfoldable pub losing : List Record → List Record
losing log = filter (λ u. is_loser log u.trans.0) (all_surviving log)

-- First the unended transactions with nothing to undo, then one falling sweep over all losers. One in doubt gets nothing.
unfoldable pub tail_steps : List Record → List TailStep
tail_steps log = ends (filter (is_finished log) (unended log)) ++ undoes (losing log)

-- an update undone: its key gets its before image back, and undo goes on at the record before it
abbrev pub undone : Lsn → Body → Body
undone prev (Update key before after) = Compensation prev key before
undone prev _ = End

-- the record of a step, where it follows a log
abbrev pub record_for : List Record → TailStep → Record
record_for log (Ends t) = record { lsn = record { 0 = end_of log }; prev = record { 0 = last_lsn log t }; trans = record { 0 = t }; body = End }
record_for log (Undoes u) = record { lsn = record { 0 = end_of log }; prev = record { 0 = last_lsn log u.trans.0 }; trans = u.trans; body = undone u.prev u.body }

-- the records of steps that follow a log, one after another
unfoldable pub numbered : List Record → List TailStep → List Record
numbered log [] = []
numbered log (step ∷ rest) = record_for log step ∷ numbered (log ++ record_for log step ∷ []) rest

-- what a takeover of this log appends
unfoldable pub tail_of : List Record → List Record
tail_of log = numbered log (tail_steps log)

-- the tail's length in bytes
unfoldable pub tail_len : List Record → ℕ
tail_len log = sum_by record_len (tail_of log)

-- the unended transactions that a takeover ends: all but those in doubt
unfoldable pub ending : List Record → List ℕ
ending log = filter (λ t. not (is_in_doubt log t)) (unended log)

-- nothing of the tail is left to append: each unended transaction is in doubt
unfoldable pub is_undone : List Record → Bool
is_undone log = is_nobody (ending log)

-- the length of the compensation that undoes an update
abbrev pub undo_len : Record → ℕ
undo_len u = 42 + image_len (image_before u.body)

-- how many bytes the compensations of a transaction take, if it is to be undone
unfoldable pub undo_bytes : List Record → ℕ → ℕ
undo_bytes log t = sum_by undo_len (to_undo log t)

-- What a decision of a transaction in doubt may append: a commit and its end, or a rollback, its compensations and its end.
-- Each of these three records without a key takes 28 bytes.
abbrev pub decision_bytes : List Record → ℕ → ℕ
decision_bytes log t = 56 + undo_bytes log t

-- What must stay free on the log device behind a log: room for its tail, and for what decisions may append, so that neither a
-- takeover nor a decision ever meets a full device.
unfoldable pub reserve_of : List Record → ℕ
reserve_of log = tail_len log + sum_by (decision_bytes log) (in_doubt log)

-- the record that decides a transaction in doubt by a commit or a rollback, where the log ends
abbrev pub decision : List Record → ℕ → Body → Record
decision log t body = record { lsn = record { 0 = end_of log }; prev = record { 0 = last_lsn log t }; trans = record { 0 = t }; body = body }
