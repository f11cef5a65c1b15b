-- How often `undo_one` held a record and `resolve` decided a transaction, in a run without a crash.
use Rattle.std.specs.Prelude.{◌≡◌, ℕ, ◌<◌, List, ◌++◌}
use Rattle.std.specs.List.{sum_by}
use Rattle.als_record.specs.declared.record.Record.{Record}
use Rattle.als_record.specs.LogText.{end_of}
use Rattle.als_record.specs.Tail.{tail_of}
use Rattle.als_ckpt.specs.Control.{phase_byte}
use Rattle.als_reopen.specs.Taken.{AreDecided}
use Rattle.als_engine.specs.declared.step.Reply.{Reply}
use Rattle.als_engine.specs.declared.step.Reply.TheVariants as reply
use Rattle.als_engine.specs.Machine.{Machine}

-- how many records of the tail a reply tells of
abbrev pub undone_by : Reply → ℕ
undone_by (reply.Fed fed) = 0
undone_by (reply.FeedRefused refusal) = 0
undone_by reply.Done = 0
undone_by (reply.Acknowledged lsn) = 0
undone_by (reply.Undone lsn) = 1
undone_by (reply.Resolved lsn) = 0
undone_by (reply.Refused fault) = 0

-- how often `undo_one` answered Ok
abbrev pub undone : List Reply → ℕ
undone replies = sum_by undone_by replies

-- how many records a reply tells of that decide a transaction in doubt
abbrev pub resolved_by : Reply → ℕ
resolved_by (reply.Fed fed) = 0
resolved_by (reply.FeedRefused refusal) = 0
resolved_by reply.Done = 0
resolved_by (reply.Acknowledged lsn) = 0
resolved_by (reply.Undone lsn) = 0
resolved_by (reply.Resolved lsn) = 1
resolved_by (reply.Refused fault) = 0

-- how often `resolve` answered Ok
abbrev pub resolved : List Reply → ℕ
resolved replies = sum_by resolved_by replies

-- the log is sealed, and that is acknowledged
abbrev pub IsSealed : Machine → Type 0
IsSealed m = 1 < phase_byte m.held.control.phase

-- and it ends at its seal: no record of the tail is held yet
pub record EndsAtSeal (m : Machine) : Type 0 where
  pub sealed : IsSealed m
  pub ends : m.held.control.seal.0 ≡ end_of m.held.log

-- The log is the one that was sealed, its whole tail, and what came of the transactions in doubt
-- since: their decisions, and the tails that those left to append.
pub record GoesOnFrom (start now : Machine) : Type 0 where
  pub more : List Record
  pub parts : now.held.log ≡ (start.held.log ++ tail_of start.held.log) ++ more
  pub decided : AreDecided (start.held.log ++ tail_of start.held.log) more
