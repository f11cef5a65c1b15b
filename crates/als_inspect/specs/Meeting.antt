-- What a restart meets first.
use Rattle.std.specs.Prelude.{◌≡◌}
use Rattle.als_fault.specs.Kinds.{number_of}
use Rattle.als_inspect.specs.declared.fault.Fault.{Fault}
use Rattle.als_inspect.specs.FaultNames.{kind_of}

-- a fault of the control block or its checkpoint, or of a log whose mark stands within a record: 34 BadControl
abbrev pub IsOfControl : Fault → Type 0
IsOfControl fault = number_of (kind_of fault) ≡ 34

-- a fault of a page: 33 BadPage
abbrev pub IsOfPage : Fault → Type 0
IsOfPage fault = number_of (kind_of fault) ≡ 33
