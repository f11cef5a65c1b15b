-- A log that was judged, and the view of it.
use Rattle.std.specs.Prelude.{◌≡◌, ℕ, List}
use Rattle.als_record.specs.declared.record.Record.{Record}
use Rattle.als_record.specs.LogText.{end_of}
use Rattle.als_record.specs.Validity.{IsValidLog}
use Rattle.als_validator.specs.declared.validator.Validator.{Validator}
use Rattle.als_validator.specs.Validated.{IsValidatorOf}
use Rattle.als_view.specs.declared.reader.Reader.{Reader}
use Rattle.als_view.specs.Showing.{View, IsShowing}
use Rattle.als_view.specs.Views.{book_of, pages_of}

-- the log is valid, it is the one that the validator has judged, and the view is the one of it, where all of it is acknowledged
pub record IsKept (pages : ℕ) (log : List Record) (validator : Validator) (view : View) : Type 0 where
  pub valid : IsValidLog pages log
  pub judged : IsValidatorOf pages validator log
  pub shown : IsShowing log 18446744073709551615 view

-- a log that is kept so, and ends at this offset
pub record Keeps (pages : ℕ) (end : ℕ) (validator : Validator) (view : View) : Type 0 where
  pub log : List Record
  pub kept : IsKept pages log validator view
  pub ends : end_of log ≡ end

-- there is such a log
abbrev pub HasLog : ℕ → ℕ → Validator → View → Type 0
HasLog pages end validator view = ∥ Keeps pages end validator view ∥₁

-- a view before and after a call: it is of the same database, and has the same readers
abbrev pub IsSameView : View → View → Type 0
IsSameView old new = (new.book ≡ old.book) × (new.pages ≡ old.pages)

-- the reader is one of the view
abbrev pub IsReaderOf : View → Reader → Type 0
IsReaderOf view reader = (book_of reader ≡ view.book) × (pages_of reader ≡ view.pages)
