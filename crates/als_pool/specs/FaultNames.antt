-- Which of the faults of all crates each fault of this one is.
use Rattle.als_fault.specs.declared.fault_kind.FaultKind.{FaultKind}
use Rattle.als_fault.specs.declared.fault_kind.FaultKind.TheVariants as kind
use Rattle.als_frames.specs.declared.fault.Fault.{Fault as FramesFault}
use Rattle.als_frames.specs.declared.fault.Fault.TheVariants as frames_fault
use Rattle.als_pool.specs.declared.fault.Fault.{Fault}
use Rattle.als_pool.specs.declared.fault.Fault.TheVariants as fault

abbrev pub kind_of : Fault → FaultKind
kind_of fault.LogBehind = kind.LogBehind
kind_of fault.PoolFull = kind.PoolFull
kind_of fault.PageLent = kind.PageLent
kind_of fault.NothingToDo = kind.NothingToDo
kind_of fault.Device = kind.Device
kind_of fault.Memory = kind.Memory
kind_of (fault.BadPage page) = kind.BadPage page
kind_of fault.NumbersSpent = kind.NumbersSpent

-- what a fault of the frames is here
abbrev pub of_frames : FramesFault → Fault
of_frames frames_fault.PoolFull = fault.PoolFull
of_frames frames_fault.NothingToDo = fault.NothingToDo
of_frames frames_fault.Device = fault.Device
of_frames frames_fault.Memory = fault.Memory
of_frames (frames_fault.BadPage page) = fault.BadPage page
