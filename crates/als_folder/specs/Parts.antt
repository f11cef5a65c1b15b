-- What the parts of a folder are called.
use Rattle.std.specs.Prelude.{ℕ, List, [], codes}
use Rattle.als_folder.specs.declared.part.Part.{Part}
use Rattle.als_folder.specs.declared.part.Part.TheVariants.{Itself, Log, Control, Pages, NewLog, NewControl, NewPages, Role, NewRole, Id, NewId}

-- the name of a file in the folder
abbrev pub file_name_of : Part → List ℕ
file_name_of Itself = []
file_name_of Log = codes "log.blk"
file_name_of Control = codes "control.blk"
file_name_of Pages = codes "pages.blk"
file_name_of NewLog = codes "log.new"
file_name_of NewControl = codes "control.new"
file_name_of NewPages = codes "pages.new"
file_name_of Role = codes "role"
file_name_of NewRole = codes "role.new"
file_name_of Id = codes "id"
file_name_of NewId = codes "id.new"
