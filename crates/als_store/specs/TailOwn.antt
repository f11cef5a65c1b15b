-- The first record of a log's tail, and the update that is undone first.
use Rattle.std.specs.Prelude.{◌≡◌, ℕ, ◌<◌, ◌≤◌, List, [], ◌∷◌, Option, MatchOption, slice_index}
use Rattle.als_record.specs.declared.record.Record.{Record}
use Rattle.als_record.specs.Tail.{tail_of}
use Rattle.als_reopen.specs.Taken.{IsNextOfTail}
use Rattle.als_takeover.specs.Next.{undoing}

-- the newest update that is to be undone of the transaction at a place, not below those of the first n
pub record IsBestAt (log : List Record) (ts : List ℕ) (n place : ℕ) : Type 0 where
  pub within : place < n
  pub update : Record
  pub rest : List Record
  pub newest : undoing log (slice_index ts place) ≡ update ∷ rest
  pub top : (j : ℕ) (x : Record) (more : List Record) → j < n → undoing log (slice_index ts j) ≡ x ∷ more → x.lsn.0 ≤ update.lsn.0

-- the place of the one that is undone first of the first n transactions, none where none of their updates is undone
abbrev pub IsBest : List Record → List ℕ → ℕ → Option ℕ → Type 0
IsBest log ts n best = MatchOption best ((j : ℕ) → j < n → undoing log (slice_index ts j) ≡ []) (IsBestAt log ts n)

-- the first record of the log's tail, none exactly where it is empty
abbrev pub TellsOwed : List Record → Option Record → Type 0
TellsOwed log found = MatchOption found (tail_of log ≡ []) (IsNextOfTail log)
