-- The record that a view shows.
use Rattle.std.specs.Prelude.{ℕ, Option, Some, None}
use Rattle.als_record.specs.declared.record.Body.{Body}
use Rattle.als_record.specs.declared.record.Body.TheVariants.{Update, Compensation, Commit, Rollback, End, BeginCheckpoint, EndCheckpoint, Prepare}
use Rattle.als_record.specs.declared.record.Record.{Record}
use Rattle.als_record.specs.Spelling.{Image}
use Rattle.als_record.specs.declared.image_view.ImageView.{ImageView}
use Rattle.als_record.specs.declared.rows_view.RowsView.{RowsView}
use Rattle.als_record.specs.declared.rows_view.RowsView.TheVariants.{Spelled, Kept}
use Rattle.als_record.specs.declared.record_view.BodyView.{BodyView}
use Rattle.als_record.specs.declared.record_view.BodyView.TheVariants as view
use Rattle.als_record.specs.declared.record_view.RecordView.{RecordView}
use Rattle.als_record.specs.Spelled.{image_in, rows_in}

-- the image that a view of one shows
abbrev pub shown_image : ImageView → Image
shown_image image = image_in image.bytes

-- the body of an end_chkpt with the rows that a view of them shows
abbrev pub shown_rows : RowsView → Body
shown_rows (Spelled rows) = rows_in rows.bytes.now
shown_rows (Kept transactions pages) = EndCheckpoint transactions.now pages.now

-- what a record says of which this is seen
abbrev pub shown_body : BodyView → Body
shown_body (view.Update key before after) = Update key (shown_image before) (shown_image after)
shown_body (view.Compensation undo_next key after) = Compensation undo_next key (shown_image after)
shown_body view.Commit = Commit
shown_body view.Rollback = Rollback
shown_body view.End = End
shown_body view.BeginCheckpoint = BeginCheckpoint
shown_body (view.EndCheckpoint rows) = shown_rows rows
shown_body view.Prepare = Prepare

-- the record that a view shows
abbrev pub shown : RecordView → Record
shown seen = record { lsn = seen.lsn; prev = seen.prev; trans = seen.trans; body = shown_body seen.body }

-- the record and its length, where a view of one and its length were found
abbrev pub shown_found : Option (RecordView × ℕ) → Option (Record × ℕ)
shown_found None = None
shown_found (Some found) = Some (shown found.0, found.1)
