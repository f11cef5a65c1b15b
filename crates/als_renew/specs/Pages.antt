-- The transaction that gives each key of a page its value.
use Rattle.std.specs.Prelude.{◌≡◌, ℕ, zero, suc, ◌+◌, ◌<◌, List, [], ◌∷◌, ◌++◌, Option, None, Some, IsTrue}
use Rattle.als_record.specs.declared.key.Key.{Key}
use Rattle.als_record.specs.declared.record.Record.{Record}
use Rattle.als_record.specs.Spelling.{Image}
use Rattle.als_record.specs.LogText.{spellings, end_of}
use Rattle.als_record.specs.Images.{image_now}
use Rattle.als_record.specs.Validity.{is_valid}
use Rattle.als_record.specs.Commits.{Write, commits_of, seen_after}
use Rattle.als_writing.specs.Writing.{transaction, is_new}

-- what readers see of a log at a key
abbrev pub value_in : List Record → Key → Image
value_in log k = seen_after (commits_of log) k

-- the write that gives a key a value; none where it has none
abbrev pub write_at : Key → Image → List Write
write_at key None = []
write_at key (Some bytes) = record { key = key; after = Some bytes } ∷ []

abbrev pub key_at : ℕ → ℕ → Key
key_at page slot = record { page = page; slot = slot }

-- the writes of the first slots of a page
unfoldable pub page_writes : (Key → Image) → ℕ → ℕ → List Write
page_writes value page zero = []
page_writes value page (suc slot) = page_writes value page slot ++ write_at (key_at page slot) (value (key_at page slot))

-- a whole transaction of these writes, none where there is none
abbrev pub written_by : List Record → ℕ → List Write → List Record
written_by log t [] = []
written_by log t (w ∷ rest) = transaction log t (w ∷ rest)

-- the records of a page behind a log: transaction P + 1 of page P
abbrev pub page_records : (Key → Image) → ℕ → List Record → List Record
page_records value page log = written_by log (page + 1) (page_writes value page 15)

-- a valid log that ends there, in which the page's transaction may begin, and no key of the page has anything
pub record IsUnwritten (page end : ℕ) (log : List Record) : Type 0 where
  pub valid : IsTrue (is_valid log)
  pub ends : end ≡ end_of log
  pub new : IsTrue (is_new log (page + 1))
  pub nothing : (slot : ℕ) → slot < 15 → image_now log (key_at page slot) ≡ None

-- these bytes are the page's records behind the log, and end there
pub record SpellsPage (page : ℕ) (value : Key → Image) (log : List Record) (piece : List ℕ) (end : ℕ) : Type 0 where
  pub spelled : piece ≡ spellings (page_records value page log)
  pub ends : end ≡ end_of (log ++ page_records value page log)
