-- By what a follower counts once.
use Rattle.std.specs.Prelude.{◌≡◌, List, Option, None, Some, Contains}
use Rattle.std.specs.declared.net.ip_addr.IpAddr.{IpAddr}
use Rattle.als_quorum.specs.declared.folder_id.FolderId.{FolderId}
use Rattle.als_quorum.specs.declared.name.Name.{Name}
use Rattle.als_quorum.specs.declared.name.Name.TheVariants.{Folder, Address}
use Rattle.als_quorum.specs.declared.row.Row.{Row}

-- the id of a folder, or the address of a follower that sent none
abbrev pub name_by : Option FolderId → IpAddr → Name
name_by None peer = Address peer
name_by (Some id) peer = Folder id

-- the same of a row
abbrev pub name_of : Row → Name
name_of row = name_by row.id row.peer

-- a row has this id
abbrev pub IsTaken : List (Option Row) → FolderId → Type 0
IsTaken rows id = (row : Row) × Contains rows (Some row) × (row.id ≡ Some id)

-- a row has the id of a follower that sent one
abbrev pub IsThere : List (Option Row) → Option FolderId → Type 0
IsThere rows None = ⊥
IsThere rows (Some id) = IsTaken rows id
