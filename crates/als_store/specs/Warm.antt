-- What is true of a store whose devices were sound when it was made. Nobody can test it: so it is
-- kept under the premise that it was true then.
use Rattle.std.specs.Prelude.{Bool, true}
use Rattle.als_pool.specs.Images.{IsPoolOf}
use Rattle.als_pool.specs.Queues.{total_waiting}
use Rattle.als_store.specs.Origin.{Origin}
use Rattle.als_store.specs.Stored.{Stored}
use Rattle.als_store.specs.Checkpoints.{AreCovering}
use Rattle.als_store.specs.Takeover.{AreTaken}

-- The pages, their images, their rows and what waits for them are the log's; each control state
-- that a crash may leave says what is true of the log; and each checkpoint is one of the log and of
-- the pages. `recovering`: the store was opened and is not ready yet.
pub record IsWarm (recovering : Bool) (o : Origin) : Type 0 where
  pub is_pool : IsPoolOf o.log o.control.mark.0 o.pool
  pub taken : AreTaken o.log o.control o.since recovering (total_waiting o.pool.waits)
  pub told : AreCovering o.log o.pool o.held o.begun

-- the same of a store as it is now
abbrev pub now_of : Stored → Origin
now_of s = record {
  log = s.log;
  control = s.control;
  since = s.since;
  held = s.held;
  begun = s.begun;
  pool = s.pool;
}

abbrev pub IsWarmNow : Stored → Type 0
IsWarmNow s = IsWarm s.recovering (now_of s)

-- the store was warm when it was made: then it still is
abbrev pub WasWarm : Stored → Type 0
WasWarm s = IsWarm true s.origin
