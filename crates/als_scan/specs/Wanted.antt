-- Which records of a log are asked for.
use Rattle.std.specs.Prelude.{◌≡◌, ◌≤◌, ℕ, Option, Some, None, IfSome}
use Rattle.als_record.specs.declared.record.Record.{Record}
use Rattle.als_record.specs.declared.record.Body.{Body}
use Rattle.als_record.specs.declared.record.Body.TheVariants.{Update, Compensation, Commit, Rollback, End, BeginCheckpoint, EndCheckpoint, Prepare}
use Rattle.als_scan.specs.declared.wanted.Wanted.{Wanted}

-- the page that a record with this body writes
abbrev pub page_of : Body → Option ℕ
page_of (Update key before after) = Some key.page
page_of (Compensation next key after) = Some key.page
page_of Commit = None
page_of Rollback = None
page_of End = None
page_of BeginCheckpoint = None
page_of (EndCheckpoint rows pages) = None
page_of Prepare = None

-- it stands there or behind, is of the transaction, and writes the page, if these are named
abbrev pub IsWanted : Wanted → Record → Type 0
IsWanted wanted r = (wanted.from.0 ≤ r.lsn.0) × IfSome wanted.trans (λ t. r.trans ≡ t) × IfSome wanted.page (λ p. page_of r.body ≡ Some p)
