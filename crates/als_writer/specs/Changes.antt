-- What a writer knows of the last commit of each key.
use Rattle.std.specs.Prelude.{◌≡◌, ℕ, ◌+◌, ◌*◌, ◌<◌, ◌≤◌, nat_lt, nat_le, Bool, ◌&&◌, List, length, slice_index_or}
use Rattle.als_record.specs.declared.key.Key.{Key}
use Rattle.als_record.specs.declared.lsn.Lsn.{Lsn}
use Rattle.als_record.specs.declared.record.Record.{Record}
use Rattle.als_writing.specs.Writing.{last_write}

-- where a key's number is kept: 15 slots a page
abbrev pub place_of : Key → ℕ
place_of k = k.page * 15 + k.slot

-- for each key of a database with this many pages an upper bound of the LSN of the last commit that wrote it
pub record AreBounds (changes : List ℕ) (pages : ℕ) (log : List Record) : Type 0 where
  pub count : length changes ≡ pages * 15
  pub each : (k : Key) (d : ℕ) → k.page < pages → k.slot ≤ 14 → last_write log k ≤ slice_index_or changes (place_of k) d

-- whether the number that is kept of a key is at most this LSN
abbrev pub is_below : List ℕ → Key → Lsn → Bool
is_below changes k since = nat_lt (place_of k) (length changes) && nat_le (slice_index_or changes (place_of k) 0) since.0
