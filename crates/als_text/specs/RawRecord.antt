-- A raw record as the record that it makes, whatever its numbers and values are.
use Rattle.std.specs.Prelude.{ℕ, []}
use Rattle.als_record.specs.declared.record.Body.{Body}
use Rattle.als_record.specs.declared.record.Body.TheVariants as held
use Rattle.als_record.specs.declared.record.Record.{Record}
use Rattle.als_text.specs.declared.raw_body.RawBody.{RawBody}
use Rattle.als_text.specs.declared.raw_body.RawBody.TheVariants.{Update, Compensation, Commit, Rollback, End, BeginCheckpoint, EndCheckpoint, Prepare}

-- what a record says that has these numbers and values; an end_chkpt has no rows
abbrev pub body_of : RawBody → Body
body_of (Update page slot before after) = held.Update (record { page = page; slot = slot }) before after
body_of (Compensation page slot after undo_next) = held.Compensation (record { 0 = undo_next }) (record { page = page; slot = slot }) after
body_of Commit = held.Commit
body_of Rollback = held.Rollback
body_of End = held.End
body_of BeginCheckpoint = held.BeginCheckpoint
body_of EndCheckpoint = held.EndCheckpoint [] []
body_of Prepare = held.Prepare

-- the record in its place, with its PrevLSN
abbrev pub record_of : ℕ → ℕ → ℕ → RawBody → Record
record_of lsn prev trans body = record { lsn = record { 0 = lsn }; prev = record { 0 = prev }; trans = record { 0 = trans }; body = body_of body }
