-- What formatting devices gives: an engine over a new database, or a refusal.
use Rattle.std.specs.Prelude.{◌≡◌, ℕ, ◌+◌, ◌⊎◌}
use Rattle.als_store.specs.Stored.{formatted_pool}
use Rattle.als_engine.specs.declared.config.Config.{Config}
use Rattle.als_engine.specs.declared.fault.Fault.{Fault}
use Rattle.als_engine.specs.declared.fault.Fault.TheVariants.{BadConfig, Memory, Device}
use Rattle.als_engine.specs.Config.{IsWorld}
use Rattle.als_engine.specs.Machine.{Machine, formatted_machine}

-- The machine of a new database. The log's device has so many blocks, and so has the pages'. The
-- pages' device had failed and was called so often before, and all three had failed so often.
abbrev pub FormatsWorld : Config → ℕ → ℕ → ℕ → ℕ → ℕ → Machine → Type 0
FormatsWorld config log_blocks page_blocks page_failures page_attempts failures m =
    m ≡ formatted_machine config
    (formatted_pool config.pages config.frames page_blocks page_failures
    (page_attempts + config.pages + 1))
    log_blocks failures m.held.attempts

-- Why nothing was formatted: the numbers do not fit, or they do and an allocation failed or a
-- device failed. The log's device has so many blocks, the control block's, and the pages'.
abbrev pub RefusesFormat : Config → ℕ → ℕ → ℕ → Fault → Type 0
RefusesFormat config log control pages fault =
    (fault ≡ BadConfig)
    ⊎ (IsWorld config log control pages × ((fault ≡ Memory) ⊎ (fault ≡ Device)))
