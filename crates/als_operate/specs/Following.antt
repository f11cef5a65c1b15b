-- What a standby that follows one session did.
use Rattle.std.specs.Prelude.{◌≡◌, ◌⊎◌, ℕ, List, Option}
use Rattle.als_record.specs.declared.header.LogHeader.{LogHeader}
use Rattle.als_engine.specs.Machine.{Machine}
use Rattle.als_ship.specs.declared.fault.Fault.{Fault as SessionFault}
use Rattle.als_ship.specs.Follows.{SameText}
use Rattle.als_ship.specs.Sessions.{Follows, EndsEarly}
use Rattle.als_operate.specs.declared.fault.Fault.{Fault}
use Rattle.als_operate.specs.declared.fault.Fault.TheVariants.{Session}
use Rattle.als_operate.specs.Upkeep.{UpkeepRefused, IsSettled}

-- a whole session was followed, each frame fed, forced and answered, and then the standby settled
pub record FollowsAll (alone : Type 0) (old new : Machine) (before behind written more : Option (List ℕ)) : Type 0 where
  pub header : LogHeader
  pub followed : Machine
  pub follows : Follows alone header old followed before behind written more
  pub own : alone → header.pages ≡ old.held.pages
  pub same : alone → SameText followed new
  pub settled : alone → IsSettled new

-- The session ended early, of which the fault tells, or it was followed to its end and then the standby was refused to settle. Each
-- answer that was told is what a force gave.
pub record FollowsPart (alone : Type 0) (fault : Fault) (old new : Machine) (before behind written more : Option (List ℕ)) : Type 0 where
  pub header : LogHeader
  pub followed : Machine
  pub session : Follows alone header old followed before behind written more ⊎ ((cause : SessionFault) × (fault ≡ Session cause) × EndsEarly alone UpkeepRefused header cause old followed before written more)
  pub own : alone → header.pages ≡ old.held.pages
  pub same : alone → SameText followed new
