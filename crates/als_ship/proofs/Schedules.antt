-- Over a schedule of true frames.
use Rattle.std.proofs.Common.{◌≡◌, ℕ, List, [], ◌∷◌, Result, Ok, Err}
use Rattle.als_record.specs.declared.lsn.Lsn.{Lsn}
use Rattle.als_engine.specs.Machine.{Machine}
use Rattle.als_wire.specs.declared.frame.Frame.{Frame}
use Rattle.als_wire.specs.declared.frame.Frame.TheVariants.{Data, Acknowledged, Resume, Epochs}
use Rattle.als_ship.specs.declared.fault.Fault.{Fault}
use Rattle.als_ship.specs.Epochs.{AreEpochs}
use Rattle.als_ship.specs.Follows.{HoldsFront, IsTrueFrame, Handles, Happening, Comes, Works, Resynced, Crashed, Schedule, AreTrue}
use Rattle.als_ship.proofs.Fronts.{holds_equal, holds_same, takes_front, resync_front}
use Rattle.als_ship.proofs.HistoryFronts.{takes_up_front, crash_front}

pub handles_front : (texts : ℕ → List ℕ) (seals : List ℕ) (old new : Machine) (frame : Frame) (result : Result Lsn Fault) → AreEpochs texts seals → Handles old frame result new → IsTrueFrame texts seals frame → HoldsFront texts seals old → HoldsFront texts seals new
handles_front texts seals old new (Data epoch offset bytes) result epochs handles true_ h = takes_front texts seals old new epoch offset bytes result handles true_ h
handles_front texts seals old new (Acknowledged lsn) result epochs handles true_ h = resync_front texts seals old new handles.1 h
handles_front texts seals old new (Resume from header history) result epochs handles true_ h = resync_front texts seals old new handles.1 h
handles_front texts seals old new (Epochs history) result epochs handles true_ h = takes_up_front texts seals old new history result epochs true_ handles h

pub schedule_front : (texts : ℕ → List ℕ) (seals : List ℕ) (schedule : List Happening) (old new : Machine) → AreEpochs texts seals → AreTrue texts seals schedule → Schedule old schedule new → HoldsFront texts seals old → HoldsFront texts seals new
schedule_front texts seals [] old new epochs true_ run h = holds_equal texts seals old new run h
schedule_front texts seals (Comes frame ∷ rest) old new epochs true_ (mid, happens, run) h = schedule_front texts seals rest mid new epochs true_.1 run (handles_front texts seals old mid frame happens.0 epochs happens.1 true_.0 h)
schedule_front texts seals (Works ∷ rest) old new epochs true_ (mid, happens, run) h = schedule_front texts seals rest mid new epochs true_ run (holds_same texts seals old mid happens h)
schedule_front texts seals (Resynced ∷ rest) old new epochs true_ (mid, happens, run) h = schedule_front texts seals rest mid new epochs true_ run (resync_front texts seals old mid happens h)
schedule_front texts seals (Crashed ∷ rest) old new epochs true_ (mid, happens, run) h = schedule_front texts seals rest mid new epochs true_ run (crash_front texts seals old mid epochs happens h)
