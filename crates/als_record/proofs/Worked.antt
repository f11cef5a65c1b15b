-- How the worked logs are written, and all definitions of transactions, tables, causes, tails and commits opened for them.
use Rattle.std.proofs.Common.{ℕ, [], ◌∷◌, Some}
use Rattle.als_record.specs.declared.key.Key.{Key}
use Rattle.als_record.specs.declared.record.Body.{Body}
use Rattle.als_record.specs.declared.record.Record.{Record}
use Rattle.als_record.specs.declared.transaction_state.TransactionState.{TransactionState}
use Rattle.als_record.specs.declared.transaction_row.TransactionRow.{TransactionRow}
use Rattle.als_record.specs.declared.record.Body.TheVariants.{Compensation}
use Rattle.als_record.specs.Spelling.{Image, record_len}
use Rattle.als_record.specs.LogText.{end_of}
use Rattle.als_record.specs.Transactions.{records_of, to_undo, surviving, has_begun, is_committed, has_rollback, has_prepare, has_ended, is_unended, is_open, is_in_doubt, is_loser, last_lsn, undo_next_of, transactions, unended, losers, in_doubt, greatest_trans, all_surviving}
use Rattle.als_record.specs.Table.{state_of, row_of, table_of, is_closed}
use Rattle.als_record.specs.Images.{image_now, won, kept, kept_without}
use Rattle.als_record.specs.Validity.{prev_of, bad_prev, old_transaction, wrong_state, wrong_undo_next, wrong_compensation, held_by, before_image, too_many, open_checkpoint, bad_checkpoint, first_bad, may_follow, may_follow_all, is_valid}
use Rattle.als_record.specs.Tail.{is_finished, undoes, losing, tail_steps, numbered, tail_of, tail_len, ending, is_undone, undo_bytes, reserve_of}
use Rattle.als_record.specs.Commits.{writes_of, commits_of}

-- opens all definitions
unfoldable pub definitions : Unit {0}
unfolding record_len end_of records_of to_undo surviving has_begun is_committed has_rollback has_prepare has_ended is_unended is_open is_in_doubt is_loser last_lsn undo_next_of transactions unended losers in_doubt greatest_trans all_surviving state_of row_of table_of is_closed image_now won kept kept_without prev_of bad_prev old_transaction wrong_state wrong_undo_next wrong_compensation held_by before_image too_many open_checkpoint bad_checkpoint first_bad may_follow may_follow_all is_valid is_finished undoes losing tail_steps numbered tail_of tail_len ending is_undone undo_bytes reserve_of writes_of commits_of
definitions = tt

-- ---- how the logs are written here: a record by its LSN, PrevLSN and TransID

abbrev pub at : ℕ → ℕ → ℕ → Body → Record
at lsn prev trans body = record { lsn = record { 0 = lsn }; prev = record { 0 = prev }; trans = record { 0 = trans }; body = body }

abbrev pub key : ℕ → ℕ → Key
key page slot = record { page = page; slot = slot }

-- an image of one byte
abbrev pub one : ℕ → Image
one byte = Some (record { items = byte ∷ [] })

abbrev pub clr : ℕ → ℕ → ℕ → Key → Image → ℕ → Record
clr lsn prev trans k after next = at lsn prev trans (Compensation (record { 0 = next }) k after)

abbrev pub row : ℕ → TransactionState → ℕ → ℕ → TransactionRow
row trans state last undo = record { trans = record { 0 = trans }; state = state; last = record { 0 = last }; undo_next = record { 0 = undo } }
