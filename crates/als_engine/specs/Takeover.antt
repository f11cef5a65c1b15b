-- What the events of a takeover make of the small machine.
use Rattle.std.specs.Prelude.{◌≡◌, ◌⊎◌, ℕ, List, [], None, Result, Ok, Err}
use Rattle.als_record.specs.declared.lsn.Lsn.{Lsn}
use Rattle.als_record.specs.declared.trans_id.TransId.{TransId}
use Rattle.als_store.specs.Stored.{Stored}
use Rattle.als_store.specs.Takeover.{WritesState, BreaksState, sealed_state, finished_state}
use Rattle.als_store.specs.Takeover.{adopted_state}
use Rattle.als_store.specs.Takeover.{UndoesOne, Resolves}
use Rattle.als_store.specs.declared.decision.Decision.{Decision}
use Rattle.als_store.specs.Events.{FailsToRead}
use Rattle.als_engine.specs.declared.fault.Fault.{Fault}
use Rattle.als_engine.specs.declared.fault.Fault.TheVariants.{Memory}
use Rattle.als_engine.specs.declared.step.Step.TheVariants as step
use Rattle.als_engine.specs.Machine.{Machine}
use Rattle.als_engine.specs.Refusals.{Does}
use Rattle.als_engine.specs.Events.{Changes, FailsIn}

-- the control block is written with the log's end as its mark and its seal; the partial record is
-- dropped, and nothing is refused any more
pub record SealsHeld (old new : Machine) : Type 0 where
  pub held : Stored
  pub seals : WritesState (sealed_state old.held) old.held held
  pub after : new ≡ record old { held = held; partial = []; refused = None }

abbrev pub SealsLog : Machine → Result (Unit {0}) Fault → Machine → Type 0
SealsLog old (Ok done) new = SealsHeld old new
SealsLog old (Err fault) new =
    FailsIn old fault (λ held after. BreaksState (sealed_state held) held after) new

-- the control block is written with the history of another node; the partial record is dropped, and nothing is refused any more
pub record AdoptsHeld (old : Machine) (history : List ℕ) (new : Machine) : Type 0 where
  pub held : Stored
  pub adopts : WritesState (adopted_state old.held history) old.held held
  pub after : new ≡ record old { held = held; partial = []; refused = None }

abbrev pub AdoptsIt : List ℕ → Machine → Result (Unit {0}) Fault → Machine → Type 0
AdoptsIt history old (Ok done) new = AdoptsHeld old history new
AdoptsIt history old (Err fault) new =
    FailsIn old fault (λ held after. BreaksState (adopted_state held history) held after) new

-- The next record of the sealed log's tail is held; there is no partial record. Or memory was
-- wanted, or the log device failed in a read, which is counted.
pub record UndoesNext (old : Machine) (lsn : Lsn) (new : Machine) : Type 0 where
  pub held : Stored
  pub undoes : UndoesOne old.held lsn held
  pub after : new ≡ record old { held = held; partial = [] }

abbrev pub Undoes : Machine → Result Lsn Fault → Machine → Type 0
Undoes old (Ok lsn) new = UndoesNext old lsn new
Undoes old (Err fault) new = ((fault ≡ Memory) × (new ≡ old)) ⊎ FailsIn old fault FailsToRead new

-- A record decides a transaction in doubt; there is no partial record. Or memory was wanted, or the log device failed in a read, which is
-- counted.
pub record ResolvesHeld (old : Machine) (trans : TransId) (verdict : Decision) (lsn : Lsn) (new : Machine) : Type 0 where
  pub held : Stored
  pub resolves : Resolves old.held trans.0 verdict lsn held
  pub after : new ≡ record old { held = held; partial = [] }

abbrev pub ResolvesIt : TransId → Decision → Machine → Result Lsn Fault → Machine → Type 0
ResolvesIt trans verdict old (Ok lsn) new = ResolvesHeld old trans verdict lsn new
ResolvesIt trans verdict old (Err fault) new = ((fault ≡ Memory) × (new ≡ old)) ⊎ FailsIn old fault FailsToRead new

-- the control block is written with phase Primary
abbrev pub FinishesTakeover : Machine → Result (Unit {0}) Fault → Machine → Type 0
FinishesTakeover old (Ok done) new =
    Changes old (λ held after. WritesState (finished_state held) held after) new
FinishesTakeover old (Err fault) new =
    FailsIn old fault (λ held after. BreaksState (finished_state held) held after) new

-- ---- refused or not

abbrev pub Seals : Machine → Result (Unit {0}) Fault → Machine → Type 0
Seals old result new = Does old step.Seal (SealsLog old) result new

abbrev pub Adopts : Machine → List ℕ → Result (Unit {0}) Fault → Machine → Type 0
Adopts old history result new = Does old (step.Adopt history) (AdoptsIt history old) result new

abbrev pub UndoesOneOf : Machine → Result Lsn Fault → Machine → Type 0
UndoesOneOf old result new = Does old step.UndoOne (Undoes old) result new

abbrev pub ResolvesOf : Machine → TransId → Decision → Result Lsn Fault → Machine → Type 0
ResolvesOf old trans verdict result new = Does old (step.Resolve trans verdict) (ResolvesIt trans verdict old) result new

abbrev pub Finishes : Machine → Result (Unit {0}) Fault → Machine → Type 0
Finishes old result new = Does old step.Finish (FinishesTakeover old) result new
