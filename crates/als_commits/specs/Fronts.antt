-- Fronts of a log that end with a commit.
use Rattle.std.specs.Prelude.{◌≡◌, ◌⊎◌, true, List, [], ◌∷◌, ◌++◌}
use Rattle.als_record.specs.declared.record.Record.{Record}
use Rattle.als_record.specs.Transactions.{is_commit}
use Rattle.als_record.specs.Commits.{Commit, commits_of}

-- the log is empty, or its last record is a commit
abbrev pub EndsWithCommit : List Record → Type 0
EndsWithCommit log = (log ≡ []) ⊎ ((before : List Record) × (r : Record) × (log ≡ before ++ r ∷ []) × (is_commit r.body ≡ true))

-- A front of the log that ends with a commit has these commits.
pub record HasFront (log : List Record) (commits : List Commit) : Type 0 where
  pub front : List Record
  pub rest : List Record
  pub parts : log ≡ front ++ rest
  pub ends : EndsWithCommit front
  pub has : commits_of front ≡ commits
