-- The commits of a log from an LSN on.
use Rattle.std.specs.Prelude.{◌≡◌, ℕ, ◌+◌, List, [], ◌∷◌, ◌++◌, length, fold, nat_lt, if◌then◌else◌, Option}
use Rattle.als_record.specs.declared.record.Record.{Record}
use Rattle.als_record.specs.Commits.{Commit, commits_of}
use Rattle.als_lookback.specs.declared.past.CommitAt.{CommitAt}
use Rattle.als_lookback.specs.declared.until.Until.TheVariants.{End}
use Rattle.als_lookback.specs.Fronts.{IsFrontOf}

-- a commit whose record begins there or above counts; how many these are; and the first ten of them
pub record Past : Type 0 where
  pub from : ℕ
  pub count : ℕ
  pub named : List CommitAt

-- the transaction and the LSN of a commit
abbrev pub place_of : Commit → CommitAt
place_of c = record { trans = c.trans; lsn = c.lsn }

-- one more commit is named where fewer than ten are
abbrev pub with_named : List CommitAt → Commit → List CommitAt
with_named named c = if nat_lt (length named) 10 then named ++ place_of c ∷ [] else named

-- one more commit counts where it stands there or above
abbrev pub with_past : Past → Commit → Past
with_past p c = if nat_lt c.lsn.0 p.from then p else record { from = p.from; count = p.count + 1; named = with_named p.named c }

abbrev pub none_past : ℕ → Past
none_past from = record { from = from; count = 0; named = [] }

-- those of these commits, in their order
unfoldable pub past_of : ℕ → List Commit → Past
past_of from commits = fold with_past (none_past from) commits

-- a text, where it is known, is that of a valid log, and these are its commits from there on
pub record CountsPast (text : Option (List ℕ)) (from : ℕ) (past : Past) : Type 0 where
  pub pages : ℕ
  pub log : List Record
  pub whole : IsFrontOf text End pages log
  pub past_is : past ≡ past_of from (commits_of log)
