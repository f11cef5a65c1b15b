-- A log as one text: a header of 16 bytes, and then the spelling of each record at its LSN.
use Rattle.std.specs.Prelude.{ℕ, ◌+◌, Bool, true, ◌&&◌, List, [], ◌∷◌, ◌++◌, IsTrue, ◌==◌, codes}
use Rattle.std.specs.List.{flat_map, sum_by, AllByRecursion}
use Rattle.std.specs.Int.{w32, to_be_bytes}
use Rattle.als_record.specs.declared.record.Record.{Record}
use Rattle.als_record.specs.Spelling.{record_len, spelling, IsRecord}

-- the header of a log of a database with this many pages
unfoldable pub header_bytes : ℕ → List ℕ
header_bytes pages = codes "ALSLOG01" ++ to_be_bytes w32 pages ++ (0 ∷ 0 ∷ 0 ∷ 0 ∷ [])

-- the spellings of records, one after another
unfoldable pub spellings : List Record → List ℕ
spellings log = flat_map spelling log

-- the whole text of a log
abbrev pub log_text : ℕ → List Record → List ℕ
log_text pages log = header_bytes pages ++ spellings log

-- the offset after the last record, 16 if there is none
unfoldable pub end_of : List Record → ℕ
end_of log = 16 + sum_by record_len log

-- each record stands where the one before it ends, the first at this offset
unfoldable pub follow_from : ℕ → List Record → Bool
follow_from at [] = true
follow_from at (r ∷ rest) = (r.lsn.0 == at) && follow_from (at + record_len r) rest

-- A log as a text can hold it: each LSN is the offset of its record, and each record fits its spelling.
pub record IsLog (pages : ℕ) (log : List Record) : Type 0 where
  pub laid_out : IsTrue (follow_from 16 log)
  pub records : AllByRecursion (IsRecord pages) log
