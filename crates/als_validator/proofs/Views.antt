-- What a view shows, where it is a view of this or of nothing like it.
use Rattle.std.proofs.Common.{◌≡◌, true, false, List, refl, ap}
use Rattle.als_record.specs.declared.key.Key.{Key}
use Rattle.als_record.specs.declared.lsn.Lsn.{Lsn}
use Rattle.als_record.specs.declared.record.Body.TheVariants.{Update, Compensation, Commit}
use Rattle.als_record.specs.declared.record.Record.{Record}
use Rattle.als_record.specs.declared.image_view.ImageView.{ImageView}
use Rattle.als_record.specs.declared.rows_view.RowsView.TheVariants.{Spelled, Kept}
use Rattle.als_record.specs.declared.record_view.BodyView.{BodyView}
use Rattle.als_record.specs.declared.record_view.BodyView.TheVariants as view
use Rattle.als_record.specs.Shown.{shown_image, shown_body}
use Rattle.als_record.specs.Transactions.{is_update, is_compensation, is_commit}
use Rattle.als_record.specs.Validity.{saw_now}

-- no view of an update
abbrev pub NoUpdate : BodyView → Type 0
NoUpdate b = (k : Key) (before after : ImageView) → b ≡ view.Update k before after → ⊥

-- no view of a compensation
abbrev pub NoCompensation : BodyView → Type 0
NoCompensation b = (n : Lsn) (k : Key) (after : ImageView) → b ≡ view.Compensation n k after → ⊥

pub shows_update : (b : BodyView) (k : Key) (before after : ImageView) → b ≡ view.Update k before after → shown_body b ≡ Update k (shown_image before) (shown_image after)
shows_update b k before after is = ap shown_body is

pub shows_compensation : (b : BodyView) (n : Lsn) (k : Key) (after : ImageView) → b ≡ view.Compensation n k after → shown_body b ≡ Compensation n k (shown_image after)
shows_compensation b n k after is = ap shown_body is

pub shows_commit : (b : BodyView) → b ≡ view.Commit → shown_body b ≡ Commit
shows_commit b is = ap shown_body is

pub shows_no_update : (b : BodyView) → NoUpdate b → is_update (shown_body b) ≡ false
shows_no_update (view.Update key before after) n = absurd (n key before after refl)
shows_no_update (view.Compensation undo_next key after) n = refl
shows_no_update view.Commit n = refl
shows_no_update view.Rollback n = refl
shows_no_update view.End n = refl
shows_no_update view.BeginCheckpoint n = refl
shows_no_update (view.EndCheckpoint (Spelled rows)) n = refl
shows_no_update view.Prepare n = refl
shows_no_update (view.EndCheckpoint (Kept transactions pages)) n = refl

pub shows_no_compensation : (b : BodyView) → NoCompensation b → is_compensation (shown_body b) ≡ false
shows_no_compensation (view.Update key before after) n = refl
shows_no_compensation (view.Compensation undo_next key after) n = absurd (n undo_next key after refl)
shows_no_compensation view.Commit n = refl
shows_no_compensation view.Rollback n = refl
shows_no_compensation view.End n = refl
shows_no_compensation view.BeginCheckpoint n = refl
shows_no_compensation (view.EndCheckpoint (Spelled rows)) n = refl
shows_no_compensation view.Prepare n = refl
shows_no_compensation (view.EndCheckpoint (Kept transactions pages)) n = refl

pub shows_no_commit : (b : BodyView) → (b ≡ view.Commit → ⊥) → is_commit (shown_body b) ≡ false
shows_no_commit (view.Update key before after) n = refl
shows_no_commit (view.Compensation undo_next key after) n = refl
shows_no_commit view.Commit n = absurd (n refl)
shows_no_commit view.Rollback n = refl
shows_no_commit view.End n = refl
shows_no_commit view.BeginCheckpoint n = refl
shows_no_commit (view.EndCheckpoint (Spelled rows)) n = refl
shows_no_commit view.Prepare n = refl
shows_no_commit (view.EndCheckpoint (Kept transactions pages)) n = refl

-- what is no update has seen whatever its key had
pub shows_saw_now : (log : List Record) (b : BodyView) → NoUpdate b → saw_now log (shown_body b) ≡ true
shows_saw_now log (view.Update key before after) n = absurd (n key before after refl)
shows_saw_now log (view.Compensation undo_next key after) n = refl
shows_saw_now log view.Commit n = refl
shows_saw_now log view.Rollback n = refl
shows_saw_now log view.End n = refl
shows_saw_now log view.BeginCheckpoint n = refl
shows_saw_now log (view.EndCheckpoint (Spelled rows)) n = refl
shows_saw_now log view.Prepare n = refl
shows_saw_now log (view.EndCheckpoint (Kept transactions pages)) n = refl
