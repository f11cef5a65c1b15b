-- What a log begins with that goes on from another one.
use Rattle.std.specs.Prelude.{ℕ, zero, suc, List, [], ◌++◌}
use Rattle.als_record.specs.declared.key.Key.{Key}
use Rattle.als_record.specs.declared.record.Record.{Record}
use Rattle.als_record.specs.Spelling.{Image}
use Rattle.als_record.specs.Transactions.{greatest_trans}
use Rattle.als_lookback.specs.Doubts.{Doubt, doubts_in}
use Rattle.als_renew.specs.Pages.{value_in, page_records}
use Rattle.als_renew.specs.Carried.{carried}
use Rattle.als_renew.specs.Closing.{kept_number, closing}

-- the records of the first pages
unfoldable pub pages_written : (Key → Image) → ℕ → List Record
pages_written value zero = []
pages_written value (suc page) = pages_written value page ++ page_records value page (pages_written value page)

-- a log with doubts behind it, and with a number that is kept
abbrev pub with_doubts : List Record → List Doubt → List Record
with_doubts log ds = log ++ carried log ds

abbrev pub raised : ℕ → List Record → List Record
raised t log = log ++ closing t log

-- a transaction for each page, then each one in doubt once more, then the greatest number
unfoldable pub beginning_of : ℕ → List Record → List Record
beginning_of pages old = raised (kept_number (greatest_trans old)) (with_doubts (pages_written (value_in old) pages) (doubts_in old))
