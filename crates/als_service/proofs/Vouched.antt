-- What a primary was told in all sessions, over a run of events that goes on.
use Rattle.std.specs.Prelude.{◌≡◌, ◌≤◌, ℕ, List, [], ◌∷◌, Option, Some, None, Result, Err}
use Rattle.std.specs.List.{AllByRecursion}
use Rattle.std.proofs.Common.{refl, ap, ◌∙◌}
use Rattle.als_operate.specs.declared.fault.Fault.{Fault}
use Rattle.als_engine.specs.Machine.{Machine}
use Rattle.als_engine.specs.Telling.{Stands}
use Rattle.als_store.specs.Stored.{acknowledged}
use Rattle.als_share.specs.Reaching.{Reaches}
use Rattle.als_share.proofs.Reached.{reached-kept}
use Rattle.als_ship.specs.Vouching.{TellsVouched}
use Rattle.als_ship.proofs.Vouching.{told_higher, told_nothing}
use Rattle.als_service.specs.Sessions.{Session, begins, ends, refuses, IsVouched, VouchesLast, VouchesAll}

-- the streams of a session are those of the last one
pub vouches_last : (floor : ℕ) (ended : Option (Result (Unit {0}) Fault)) (told after : Option (List ℕ)) (start came gone : List Session)
    → came ≡ begins told start → gone ≡ ends after ended came → TellsVouched floor told after → VouchesLast floor start gone
vouches_last floor ended told after start came gone comes_first goes_then tells =
    (record { told = told; after = after; ended = Some ended }, goes_then ∙ ap (ends after ended) comes_first, tells)

-- where there was no connection, nobody was told anything
pub vouches_nobody : (floor : ℕ) (fault : Fault) (start gone : List Session) → gone ≡ refuses fault start → VouchesLast floor start gone
vouches_nobody floor fault start gone e =
    (record { told = None; after = None; ended = Some (Some (Err fault)) }, e, told_nothing floor None)

pub vouches_none : (floor : ℕ) (met : List Session) → VouchesAll floor met met
vouches_none floor met = ([], refl, tt)

higher : (low high : ℕ) (sessions : List Session) → low ≤ high → AllByRecursion (IsVouched low) sessions → AllByRecursion (IsVouched high) sessions
higher low high [] rises all = tt
higher low high (session ∷ rest) rises all =
    (told_higher low high session.told session.after rises all.0, higher low high rest rises all.1)

-- a session more, after which the machine is one that the events reached
pub vouches_more : (old now : Machine) (start mid new : List Session) → Stands old → Reaches old now
    → VouchesAll (acknowledged old.held) start mid → VouchesLast (acknowledged now.held) mid new → VouchesAll (acknowledged now.held) start new
vouches_more old now start mid new stands reaches all last =
    let kept = reached-kept old now stands reaches in (
      last.0 ∷ all.0,
      last.1 ∙ ap (λ (met : List Session). last.0 ∷ met) all.1,
      (last.2, higher (acknowledged old.held) (acknowledged now.held) all.0 kept.keeps.acknowledged all.2),
    )
