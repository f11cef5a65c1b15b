-- Histories: calls on a receiver one after another, with what they answered.
use Rattle.std.specs.Prelude.{◌≡◌, ℕ, ◌+◌, ◌-◌, IsTrue, List, [], ◌∷◌, ◌++◌, length, take, Option, None, Some, Result, Ok, Err}
use Rattle.als_record.specs.declared.fault.Fault.{Fault}
use Rattle.als_record.specs.declared.record.Record.{Record}
use Rattle.std.specs.List.{sum_by, AllByRecursion}
use Rattle.als_record.specs.Spelling.{record_len, IsRecord}
use Rattle.als_record.specs.LogText.{spellings, follow_from}
use Rattle.als_record.specs.Reading.{read_record}
use Rattle.als_receiver.specs.declared.refusal.Refusal.{Refusal}
use Rattle.als_receiver.specs.Reception.{Reception, with_kept, with_room, behind, CanHandOut, Looks, IsRefusal, Answers}

-- a call: a piece pushed, a look at the next record and what it answered, a record taken that a look showed with so many
-- bytes, a copy of the next record asked for, the bytes that were dropped, or room asked for, with a piece that found none too
pub data Call : Type 0 where
  Push : (piece : List ℕ) → Call
  Look : (answer : Result (Option (Record × ℕ)) Refusal) → Call
  Take : (shown : Record) → (len : ℕ) → Call
  Next : (answer : Result (Option Record) Refusal) → Call
  Drop : (bytes : List ℕ) → Call
  Room : Call

-- what a call does
abbrev pub Does : Reception → Call → Reception → Type 0
Does old (Push piece) new = new ≡ with_kept old (old.kept ++ piece) new.room
Does old (Look answer) new = Looks old answer × (new ≡ old)
Does old (Take shown len) new = CanHandOut old shown len × (new ≡ behind old len)
Does old (Next answer) new = Answers old answer new
Does old (Drop bytes) new = (bytes ≡ old.kept) × (new ≡ with_kept old [] new.room)
Does old Room new = new ≡ with_room old new.room

-- calls lead from one state to another
abbrev pub Runs : Reception → List Call → Reception → Type 0
Runs old [] new = new ≡ old
Runs old (call ∷ calls) new = (between : Reception) × Does old call between × Runs between calls new

-- the record that an answer hands out, if it does
abbrev pub handed_by : Result (Option Record) Refusal → List Record
handed_by (Ok (Some r)) = r ∷ []
handed_by (Ok None) = []
handed_by (Err refusal) = []

-- the records handed out, in order
abbrev pub handed : List Call → List Record
handed [] = []
handed (Push piece ∷ calls) = handed calls
handed (Look answer ∷ calls) = handed calls
handed (Take shown len ∷ calls) = shown ∷ handed calls
handed (Next answer ∷ calls) = handed_by answer ++ handed calls
handed (Drop bytes ∷ calls) = handed calls
handed (Room ∷ calls) = handed calls

-- all bytes pushed but those dropped, behind the bytes that came before
abbrev pub bytes_after : List ℕ → List Call → List ℕ
bytes_after before [] = before
bytes_after before (Push piece ∷ calls) = bytes_after (before ++ piece) calls
bytes_after before (Look answer ∷ calls) = bytes_after before calls
bytes_after before (Take shown len ∷ calls) = bytes_after before calls
bytes_after before (Next answer ∷ calls) = bytes_after before calls
bytes_after before (Drop bytes ∷ calls) = bytes_after (take (length before - length bytes) before) calls
bytes_after before (Room ∷ calls) = bytes_after before calls

-- nothing was dropped
abbrev pub KeepsAll : List Call → Type 0
KeepsAll [] = Unit {0}
KeepsAll (Push piece ∷ calls) = KeepsAll calls
KeepsAll (Look answer ∷ calls) = KeepsAll calls
KeepsAll (Take shown len ∷ calls) = KeepsAll calls
KeepsAll (Next answer ∷ calls) = KeepsAll calls
KeepsAll (Drop bytes ∷ calls) = ⊥
KeepsAll (Room ∷ calls) = KeepsAll calls

-- what the bytes kept begin with, if it is read now
abbrev pub reading_of : Reception → Result (Option (Record × ℕ)) Fault
reading_of s = read_record s.pages s.wanted s.kept

-- no whole record is left among the bytes kept
pub record IsEmptied (s : Reception) : Type 0 where
  pub none : (found : Record × ℕ) → reading_of s ≡ Ok (Some found) → ⊥

-- Where a history from the first record on stands: all bytes pushed but those dropped are the records handed out,
-- spelled, and then the bytes kept; and these records follow one another in the log text.
pub record Accounts (wanted pages : ℕ) (calls : List Call) (s : Reception) : Type 0 where
  pub bytes : bytes_after [] calls ≡ spellings (handed calls) ++ s.kept
  pub follow : IsTrue (follow_from wanted (handed calls))
  pub records : AllByRecursion (IsRecord pages) (handed calls)
  pub next : s.wanted ≡ wanted + sum_by record_len (handed calls)

-- What two histories have in common that end with no whole record left.
pub record EndAlike (first second : List Call) (s t : Reception) : Type 0 where
  pub records : handed first ≡ handed second
  pub kept : s.kept ≡ t.kept
  pub wanted : s.wanted ≡ t.wanted
  pub refusal : (e : Refusal) → IsRefusal s e → IsRefusal t e

-- What is so behind a refusal: it is still the one, and no record was handed out.
pub record Stays (e : Refusal) (calls : List Call) (t : Reception) : Type 0 where
  pub refusal : IsRefusal t e
  pub nothing : handed calls ≡ []
