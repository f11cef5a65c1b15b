-- What an engine may be made with.
use Rattle.std.specs.Prelude.{ℕ, ◌≤◌}
use Rattle.als_engine.specs.declared.config.Config.{Config}

-- each number is in its range
pub record IsConfig (config : Config) : Type 0 where
  pub some_pages : 1 ≤ config.pages
  pub pages : config.pages ≤ 4096
  pub some_frames : 1 ≤ config.frames
  pub frames : config.frames ≤ 4096
  pub some_pending : 1 ≤ config.pending
  pub pending : config.pending ≤ 1000000
  pub some_readers : 1 ≤ config.readers
  pub readers : config.readers ≤ 8

-- and the devices have as many blocks as it needs: the log's, the control block's and the pages'
pub record IsWorld (config : Config) (log control pages : ℕ) : Type 0 where
  pub numbers : IsConfig config
  pub some_blocks : 1 ≤ log
  pub few_blocks : log ≤ 4194304
  pub control_blocks : 321 ≤ control
  pub page_blocks : config.pages ≤ pages
