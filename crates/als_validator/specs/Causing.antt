-- What the answers for each cause say, of every log of which is kept what they ask.
use Rattle.std.specs.Prelude.{◌≡◌, ◌==◌, ◌&&◌, ℕ, Bool, true, false, not, List, length, Option, Some, None, if◌then◌else◌}
use Rattle.als_record.specs.declared.lsn.Lsn.{Lsn}
use Rattle.als_record.specs.declared.record.Record.{Record}
use Rattle.als_record.specs.declared.trans_id.TransId.{TransId}
use Rattle.als_record.specs.Spelling.{IsRecord}
use Rattle.als_record.specs.Transactions.{is_open, unended, greatest_trans}
use Rattle.als_record.specs.Validity.{bad_prev, old_transaction, wrong_state, wrong_undo_next, wrong_compensation, held_by}
use Rattle.als_record.specs.Validity.{before_image, too_many, bad_checkpoint, open_checkpoint, is_valid}
use Rattle.als_analysis.specs.Noted.{Table, IsTableOf}
use Rattle.als_validator.specs.declared.key_state.KeyState.{KeyState}
use Rattle.als_validator.specs.declared.past.Past.{Past}
use Rattle.als_validator.specs.Keys.{AreKeysOf}
use Rattle.als_validator.specs.Seen.{IsPastOf, AreCommitted}

-- told: PrevLSN is not that of the transaction's last record
abbrev pub TellsBadPrev : Past → Record → Bool → Type 0
TellsBadPrev past r told = (log : List Record) → IsPastOf past log r.trans.0 → told ≡ bad_prev log r

-- told: the transaction has ended, or is new and not above the greatest one
abbrev pub TellsOld : Past → TransId → Record → Bool → Type 0
TellsOld past greatest r told =
    (log : List Record) → IsPastOf past log r.trans.0 → greatest.0 ≡ greatest_trans log → told ≡ old_transaction log r

-- told: the transaction may no longer write such a record
abbrev pub TellsWrongState : Past → List TransId → Record → Bool → Type 0
TellsWrongState past committed r told =
    (log : List Record) → IsPastOf past log r.trans.0 → AreCommitted committed log → old_transaction log r ≡ false
    → told ≡ wrong_state log r

-- told: a compensation goes on elsewhere than at the update to be undone
abbrev pub TellsWrongUndoNext : Past → Record → Bool → Type 0
TellsWrongUndoNext past r told =
    (log : List Record) → IsPastOf past log r.trans.0 → old_transaction log r ≡ false → told ≡ wrong_undo_next log r

-- told: a compensation undoes anything but the update to be undone
abbrev pub TellsWrongCompensation : Past → Record → Bool → Type 0
TellsWrongCompensation past r told =
    (log : List Record) → IsPastOf past log r.trans.0 → old_transaction log r ≡ false → told ≡ wrong_compensation log r

-- told: the transaction that holds the key of an update
abbrev pub TellsHolder : List KeyState → Table → Record → Option TransId → Type 0
TellsHolder keys table r told =
    (pages : ℕ) (log : List Record) → AreKeysOf keys pages log → IsTableOf table log → is_valid log ≡ true → IsRecord pages r
    → told ≡ held_by log r

-- told: the transaction that is kept with a key, where it holds the key against another one
abbrev pub TellsHolderIn : KeyState → Table → TransId → Option TransId → Type 0
TellsHolderIn kept table trans told =
    (log : List Record) → IsTableOf table log
    → told ≡ (if not (kept.count == 0) && not (kept.holder.0 == trans.0) && is_open log kept.holder.0 then Some kept.holder else None)

-- told: the before image of an update is another than the key has
abbrev pub TellsStale : List KeyState → Record → Bool → Type 0
TellsStale keys r told = (pages : ℕ) (log : List Record) → AreKeysOf keys pages log → IsRecord pages r → told ≡ before_image log r

-- told: the record begins one transaction too many
abbrev pub TellsOneTooMany : Past → ℕ → Record → Bool → Type 0
TellsOneTooMany past count r told =
    (log : List Record) → IsPastOf past log r.trans.0 → count ≡ length (unended log) → is_valid log ≡ true
    → old_transaction log r ≡ false → told ≡ too_many log r

-- told: a checkpoint's record does not fit those before it
abbrev pub TellsBadCheckpoint : Lsn → Record → Bool → Type 0
TellsBadCheckpoint begun r told = (log : List Record) → begun.0 ≡ open_checkpoint log → told ≡ bad_checkpoint log r
