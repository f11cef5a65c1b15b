-- Which file of a folder is too short.
use Rattle.std.specs.Prelude.{Option, Some, None, nat_lt, if◌then◌else◌}
use Rattle.als_folder.specs.declared.lengths.Sizes.{Sizes}
use Rattle.als_folder.specs.declared.part.Part.{Part}
use Rattle.als_folder.specs.declared.part.Part.TheVariants as part

-- the first one that has fewer blocks than it needs: the control block's, the log's, or the pages'
abbrev pub shorter_part : Sizes → Sizes → Option Part
shorter_part found needed =
    if nat_lt found.control needed.control then Some part.Control
    else (if nat_lt found.log needed.log then Some part.Log
    else (if nat_lt found.pages needed.pages then Some part.Pages else None))
