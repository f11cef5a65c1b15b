-- What a session tells, for each answer of which a voucher stands.
use Rattle.std.specs.Prelude.{◌≤◌, ◌<◌, ◌^◌, ℕ, List, ◌++◌, Option, IfSome}
use Rattle.std.specs.List.{AllByRecursion}
use Rattle.std.specs.Io.KnownBytes.{Appends}
use Rattle.als_record.specs.declared.lsn.Lsn.{Lsn}
use Rattle.als_epochs.specs.Histories.{IsHistory}
use Rattle.als_wire.specs.Frames.{acknowledged_bytes, answers_bytes, resume_bytes}
use Rattle.als_wire.specs.Sending.{Puts}

-- each of these LSNs is at most the floor
abbrev pub AreVouched : ℕ → List Lsn → Type 0
AreVouched floor answers = AllByRecursion (λ lsn. lsn.0 ≤ floor) answers

-- Acknowledged frames with such LSNs were written
abbrev pub AnswersAll : ℕ → Option (List ℕ) → Option (List ℕ) → Type 0
AnswersAll floor old new = (answers : List Lsn) × AreVouched floor answers × Appends old new (answers_bytes answers)

-- one such frame was
abbrev pub AnswersOne : ℕ → Option (List ℕ) → Option (List ℕ) → Type 0
AnswersOne floor old new = (answer : Lsn) × (answer.0 ≤ floor) × Appends old new (acknowledged_bytes answer.0)

-- a front of one such frame was, or nothing
abbrev pub AnswersPart : ℕ → Option (List ℕ) → Option (List ℕ) → Type 0
AnswersPart floor old new = (answer : Lsn) × (answer.0 ≤ floor) × Puts (acknowledged_bytes answer.0) old new

-- the numbers of a Resume frame fit their bytes, and its seals are a history: no other Resume frame has its bytes
abbrev pub IsAsking : ℕ → ℕ → List ℕ → Type 0
IsAsking from pages seals = (from < 2 ^ 64) × (pages < 2 ^ 32) × IsHistory seals

-- A Resume frame was written, and behind it Acknowledged frames, each of an LSN that is at most the floor; or a front of all that.
abbrev pub TellsVouched : ℕ → Option (List ℕ) → Option (List ℕ) → Type 0
TellsVouched floor old new =
    (from pages : ℕ) × (seals : List ℕ) × (answers : List Lsn) × IsAsking from pages seals × AreVouched floor answers
    × Puts (resume_bytes from pages seals ++ answers_bytes answers) old new

-- the answer that a shipper kept, if it read one, is at most the floor
abbrev pub IsVouched : ℕ → Option Lsn → Type 0
IsVouched floor kept = IfSome kept (λ lsn. lsn.0 ≤ floor)
