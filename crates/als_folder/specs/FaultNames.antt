-- Which of the faults of all crates each fault of this one is, and of what it tells.
use Rattle.std.specs.Prelude.{◌≡◌, ◌⊎◌, Option, Some, None}
use Rattle.als_fault.specs.declared.fault_kind.FaultKind.{FaultKind}
use Rattle.als_fault.specs.declared.fault_kind.FaultKind.TheVariants as kind
use Rattle.als_folder.specs.declared.fault.Fault.{Fault}
use Rattle.als_folder.specs.declared.fault.Fault.TheVariants as fault
use Rattle.als_folder.specs.declared.part.Part.{Part}
use Rattle.als_folder.specs.declared.part.Part.TheVariants as part
use Rattle.als_folder.specs.declared.trouble.Trouble.{Trouble}
use Rattle.als_folder.specs.declared.trouble.Wrong.{Wrong}
use Rattle.als_folder.specs.declared.trouble.Wrong.TheVariants as wrong

abbrev pub kind_of : Fault → FaultKind
kind_of (fault.Device trouble) = kind.Device
kind_of (fault.Damaged trouble) = kind.BadControl
kind_of fault.Busy = kind.Device
kind_of fault.Memory = kind.Memory

-- what of the folder is wrong, if anything is
abbrev pub trouble_of : Fault → Option Trouble
trouble_of (fault.Device trouble) = Some trouble
trouble_of (fault.Damaged trouble) = Some trouble
trouble_of fault.Busy = Some (record { part = part.Itself; wrong = wrong.Locked })
trouble_of fault.Memory = None

-- this part failed, or an allocation failed
abbrev pub IsOf : Part → Fault → Type 0
IsOf p f = (f ≡ fault.Memory) ⊎ ((w : Wrong) × (f ≡ fault.Device (record { part = p; wrong = w })))

-- the file of a device failed, or an allocation failed
abbrev pub IsOfDevice : Fault → Type 0
IsOfDevice f = IsOf part.Log f ⊎ IsOf part.Control f ⊎ IsOf part.Pages f

-- so did the folder, or one of these
abbrev pub IsOfOpening : Fault → Type 0
IsOfOpening f = IsOf part.Itself f ⊎ IsOfDevice f

-- the file of a device of a new database failed, or an allocation failed
abbrev pub IsOfNewDevice : Fault → Type 0
IsOfNewDevice f = IsOf part.NewLog f ⊎ IsOf part.NewControl f ⊎ IsOf part.NewPages f

-- so did the folder, or one of a database that may be there
abbrev pub IsOfLayout : Fault → Type 0
IsOfLayout f = IsOfOpening f ⊎ IsOfNewDevice f

-- the folder failed, or the file of its role
abbrev pub IsOfRole : Fault → Type 0
IsOfRole f = IsOf part.Itself f ⊎ IsOf part.Role f ⊎ IsOf part.NewRole f

-- the folder failed, or the file of its id
abbrev pub IsOfId : Fault → Type 0
IsOfId f = IsOf part.Itself f ⊎ IsOf part.Id f ⊎ IsOf part.NewId f

-- another program has the lock, or it failed
abbrev pub IsOfLock : Fault → Type 0
IsOfLock f = (f ≡ fault.Busy) ⊎ (f ≡ fault.Device (record { part = part.Itself; wrong = wrong.Failed }))
