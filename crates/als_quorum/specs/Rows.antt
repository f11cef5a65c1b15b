-- What becomes of the rows of a roll.
use Rattle.std.specs.Prelude.{◌≡◌, ◌≢◌, ℕ, max, List, Option, Some, None, length, slice_index_or}
use Rattle.std.specs.declared.time.Duration.{Duration}
use Rattle.std.specs.declared.net.ip_addr.IpAddr.{IpAddr}
use Rattle.als_record.specs.declared.lsn.Lsn.{Lsn}
use Rattle.als_callers.specs.Blocks.{IsCanonical}
use Rattle.als_quorum.specs.declared.folder_id.FolderId.{FolderId}
use Rattle.als_quorum.specs.declared.row.Row.{Row}

-- the row of a seat, where it is taken
abbrev pub row_of : List (Option Row) → ℕ → Option Row
row_of rows seat = slice_index_or rows seat None

-- of all seats one alone has another row, which is this one
abbrev pub ChangesRow : List (Option Row) → List (Option Row) → ℕ → Option Row → Type 0
ChangesRow old new seat row = (row_of new seat ≡ row) × ((other : ℕ) → other ≢ seat → row_of new other ≡ row_of old other) × (length new ≡ length old)

-- the row of a follower that has just come: its address is in one form, its id is what it sent, and it has acknowledged nothing and answered nothing
abbrev pub IsNew : IpAddr → Option FolderId → Duration → Row → Type 0
IsNew peer id now row = IsCanonical peer row.peer × (row.id ≡ id) × (row.acknowledged.0 ≡ 0) × (row.round ≡ 0) × (row.connected ≡ now) × (row.heard ≡ None)

-- a row once its follower has acknowledged this LSN in its answer to a frame of this round
abbrev pub raised : Lsn → ℕ → Duration → Row → Row
raised lsn round now row = record row { acknowledged = record { 0 = max row.acknowledged.0 lsn.0 }; round = max row.round round; heard = Some now }
