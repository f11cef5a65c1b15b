-- Where a log ends, and what it leaves open there.
use Rattle.std.specs.Prelude.{◌≡◌, ℕ, ◌<◌, ◌^◌, List, Option}
use Rattle.als_record.specs.declared.record.Record.{Record}
use Rattle.als_record.specs.LogText.{end_of}
use Rattle.als_record.specs.Transactions.{greatest_trans}
use Rattle.als_record.specs.Table.{table_of}
use Rattle.als_record.specs.Tail.{reserve_of}
use Rattle.als_lookback.specs.Doubts.{doubts_in}
use Rattle.als_lookback.specs.declared.standing.Standing.{Standing}
use Rattle.als_lookback.specs.declared.until.Until.{Until}
use Rattle.als_lookback.specs.Fronts.{IsFrontOf}
use Rattle.als_lookback.specs.Seen.{Seen, IsSeenOf}

-- its end, what a takeover and decisions may append there, its greatest TransID, its transaction table, and what is in doubt
pub record IsStandingOf (s : Standing) (log : List Record) : Type 0 where
  pub end_is : s.end.0 ≡ end_of log
  pub reserve_is : end_of log < 2 ^ 62 → s.reserve ≡ reserve_of log
  pub greatest_is : s.greatest.0 ≡ greatest_trans log
  pub rows_are : s.rows.items ≡ table_of log
  pub doubts_are : s.doubts.items ≡ doubts_in log

-- a text, where it is known, has such a front; this is what its commits leave, and what it leaves open
pub record LooksOver (text : Option (List ℕ)) (until : Until) (seen : Seen) (standing : Standing) : Type 0 where
  pub pages : ℕ
  pub front : List Record
  pub is_front : IsFrontOf text until pages front
  pub seen_is : IsSeenOf seen pages front
  pub standing_is : IsStandingOf standing front
