-- What stands against the events of a checkpoint, and what they make of the small machine.
use Rattle.std.specs.Prelude.{◌≡◌, Result, Ok, Err, IsSomeAnd}
use Rattle.als_store.specs.Events.{Breaks}
use Rattle.als_store.specs.CheckpointEvents.{BeginsCheckpoint, WritesBlock, Publishes}
use Rattle.als_store.specs.CheckpointEvents.{BreaksPublish}
use Rattle.als_engine.specs.declared.fault.Fault.{Fault}
use Rattle.als_engine.specs.declared.fault.Fault.TheVariants.{Memory}
use Rattle.als_engine.specs.declared.step.Step.TheVariants as step
use Rattle.als_engine.specs.Machine.{Machine}
use Rattle.als_engine.specs.Refusals.{Does}
use Rattle.als_engine.specs.Events.{Changes, FailsIn}

-- both tables and the log's end are copied, and no block of the checkpoint is written
abbrev pub Begins : Machine → Result (Unit {0}) Fault → Machine → Type 0
Begins old (Ok done) new = Changes old BeginsCheckpoint new
Begins old (Err fault) new = (fault ≡ Memory) × (new ≡ old)

-- the checkpoint's next block is written, by one write of a device
abbrev pub WritesNext : Machine → Result (Unit {0}) Fault → Machine → Type 0
WritesNext old (Ok done) new = Changes old WritesBlock new
WritesNext old (Err fault) new = FailsIn old fault Breaks new

-- the control block is written with the checkpoint's region and position, by one write of a device
abbrev pub PublishesNext : Machine → Result (Unit {0}) Fault → Machine → Type 0
PublishesNext old (Ok done) new =
    Changes old (λ held after. IsSomeAnd held.begun (λ b. Publishes held b after)) new
PublishesNext old (Err fault) new =
    FailsIn old fault (λ held after. IsSomeAnd held.begun (λ b. BreaksPublish held b after)) new

-- ---- refused or not

abbrev pub CkptBegins : Machine → Result (Unit {0}) Fault → Machine → Type 0
CkptBegins old result new = Does old step.CkptBegin (Begins old) result new

abbrev pub CkptWrites : Machine → Result (Unit {0}) Fault → Machine → Type 0
CkptWrites old result new = Does old step.CkptBlock (WritesNext old) result new

abbrev pub CkptPublishes : Machine → Result (Unit {0}) Fault → Machine → Type 0
CkptPublishes old result new = Does old step.CkptPublish (PublishesNext old) result new
