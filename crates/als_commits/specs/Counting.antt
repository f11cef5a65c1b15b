-- Commits whose records end at or below an offset.
use Rattle.std.specs.Prelude.{ℕ, suc, ◌+◌, ◌≤◌, nat_le, nat_lt, List, [], ◌∷◌, length, filter, fold, if◌then◌else◌}
use Rattle.als_record.specs.declared.lsn.Lsn.{Lsn}
use Rattle.als_record.specs.Commits.{Commit}

-- a commit whose record ends at or below an offset
abbrev pub IsEnded : ℕ → Commit → Type 0
IsEnded offset c = c.lsn.0 + 28 ≤ offset

-- how many of these commits have a record that ends at or below an offset
unfoldable pub ended_count : ℕ → List Commit → ℕ
ended_count offset commits = length (filter (λ c. nat_le (c.lsn.0 + 28) offset) commits)

-- how many of the first commits have a commit record that begins below an LSN, up to the first that does not
abbrev pub count_below : Lsn → List Commit → ℕ
count_below lsn [] = 0
count_below lsn (c ∷ rest) = if nat_lt c.lsn.0 lsn.0 then suc (count_below lsn rest) else 0

-- the LSN of the last of these commits, that of the one before without one
abbrev pub last_from : ℕ → List Commit → ℕ
last_from before commits = fold (λ last c. c.lsn.0) before commits

-- the LSN of the last of these commits, 0 without one
unfoldable pub last_of : List Commit → ℕ
last_of commits = fold (λ last c. c.lsn.0) 0 commits
