-- What the program prints.
use Rattle.std.specs.Prelude.{ℕ, List, ◌++◌, codes}
use Rattle.als_fault.specs.Kinds.{text_of}
use Rattle.als_engine.specs.declared.fault.Fault.{Fault}
use Rattle.als_engine.specs.Faults.{kind_of}

-- the line of a refusal: its number, its name, and the number that it carries, if any
abbrev pub refusal_line : Fault → List ℕ
refusal_line fault = codes "refused " ++ text_of (kind_of fault)
