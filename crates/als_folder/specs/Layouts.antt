-- Where a new database may be laid out.
use Rattle.std.specs.Prelude.{Result, Ok, Err}
use Rattle.als_folder.specs.declared.fault.Fault.{Fault}
use Rattle.als_folder.specs.declared.fault.Fault.TheVariants as fault
use Rattle.als_folder.specs.declared.holding.Holding.{Holding}
use Rattle.als_folder.specs.declared.holding.Holding.TheVariants.{Nothing, Data}
use Rattle.als_folder.specs.declared.part.Part.TheVariants as part
use Rattle.als_folder.specs.declared.trouble.Wrong.TheVariants as wrong

-- without a control block, only where neither the log nor the pages have data: else the file that has is named
abbrev pub check_of : Holding → Holding → Result (Unit {0}) Fault
check_of Data pages = Err (fault.Device (record { part = part.Log; wrong = wrong.NoControl }))
check_of Nothing Data = Err (fault.Device (record { part = part.Pages; wrong = wrong.NoControl }))
check_of Nothing Nothing = Ok tt
