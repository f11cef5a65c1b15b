-- How a session goes on once its follower is admitted: frames out, and answers in.
use Rattle.std.specs.Prelude.{◌≡◌, ◌≤◌, ◌+◌, ℕ, suc, List, ◌++◌, length, map, Option, []}
use Rattle.std.specs.List.{AllByRecursion}
use Rattle.std.specs.Io.KnownBytes.{Consumes, Appends}
use Rattle.als_record.specs.declared.lsn.Lsn.{Lsn}
use Rattle.als_wire.specs.Frames.{data_bytes, answers_bytes}
use Rattle.als_wire.specs.Sending.{Puts}
use Rattle.als_ship.specs.Wire.{AreLsns}
use Rattle.als_sending.specs.declared.way.Way.{Way}
use Rattle.als_sending.specs.Reads.{Read, AreOf}
use Rattle.als_sending.specs.Sent.{reads_bytes, Reach, IsNext}

-- the LSNs of answers, as numbers
abbrev pub numbers : List Lsn → List ℕ
numbers answers = map (λ (lsn : Lsn). lsn.0) answers

-- The position of a session is not past the end that the log told last, and no more frames are without an answer than its window has room for.
pub record IsWay (w : Way) (shown : ℕ) : Type 0 where
  pub within : w.at ≤ w.end
  pub end : w.end ≡ shown
  pub some : 1 ≤ w.window
  pub ahead : w.ahead ≤ w.window

-- A session goes on: what was read was sent, each piece as a frame of its own, and answers were read and acknowledged. The frames without an answer are
-- counted.
pub record Goes (w v : Way) (reads reads_now : List Read) (heard heard_now : List ℕ) (asked behind old new : Option (List ℕ)) : Type 0 where
  pub pieces : List Read
  pub answers : List Lsn
  pub epoch : v.epoch ≡ w.epoch
  pub window : v.window ≡ w.window
  pub reach : Reach w.at pieces v.at
  pub are : reads_now ≡ reads ++ pieces
  pub sent : Appends old new (reads_bytes w.epoch pieces)
  pub ahead : w.ahead + length pieces ≡ length answers + v.ahead
  pub fit : AreLsns answers
  pub kept : heard_now ≡ heard ++ numbers answers
  pub read : Consumes asked behind (answers_bytes answers)

-- It breaks off: it has gone on, and a front of one frame more was sent at most, or all of it. The frames without an answer are never more than its window.
pub record Stops (w : Way) (reads reads_now : List Read) (heard heard_now : List ℕ) (asked old new : Option (List ℕ)) : Type 0 where
  pub pieces : List Read
  pub next : List Read
  pub seen : List Read
  pub answers : List Lsn
  pub to : ℕ
  pub sent : Option (List ℕ)
  pub behind : Option (List ℕ)
  pub reach : Reach w.at pieces to
  pub one : length next ≤ 1
  pub follows : AllByRecursion (IsNext to) next
  pub are : reads_now ≡ reads ++ (pieces ++ seen)
  pub true_next : (text : List ℕ) → AreOf text seen → AreOf text next
  pub whole : Appends old sent (reads_bytes w.epoch pieces)
  pub more : Puts (reads_bytes w.epoch next) sent new
  pub window : w.ahead + (length pieces + length next) ≤ length answers + w.window
  pub fit : AreLsns answers
  pub kept : heard_now ≡ heard ++ numbers answers
  pub read : Consumes asked behind (answers_bytes answers)

-- It ends: it has gone on up to an offset, and the empty frame was sent there. Each frame is answered.
pub record Closes (w : Way) (end : ℕ) (reads reads_now : List Read) (heard heard_now : List ℕ) (asked behind old new : Option (List ℕ)) : Type 0 where
  pub pieces : List Read
  pub answers : List Lsn
  pub sent : Option (List ℕ)
  pub reach : Reach w.at pieces end
  pub are : reads_now ≡ reads ++ pieces
  pub whole : Appends old sent (reads_bytes w.epoch pieces)
  pub closed : Appends sent new (data_bytes w.epoch end [])
  pub each : w.ahead + suc (length pieces) ≡ length answers
  pub fit : AreLsns answers
  pub kept : heard_now ≡ heard ++ numbers answers
  pub read : Consumes asked behind (answers_bytes answers)
