-- A store over devices that were stopped.
use Rattle.std.specs.Prelude.{◌≡◌, ℕ, ◌+◌, ◌*◌, ◌≤◌, true, false, List, [], length, Some, None, IfSome}
use Rattle.als_record.specs.declared.record.Record.{Record}
use Rattle.als_record.specs.LogText.{end_of}
use Rattle.als_record.specs.Tail.{reserve_of}
use Rattle.als_record.specs.Validity.{IsValidLog}
use Rattle.als_ckpt.specs.Regions.{Said, IsPublished, held_of, held_at}
use Rattle.als_tables.specs.Fronts.{IsOfFront}
use Rattle.als_pool.specs.Pooled.{Pooled, leases_of}
use Rattle.als_pool.specs.Images.{QueuesOf}
use Rattle.als_pool.specs.Restart.{HasRowsFrom}
use Rattle.als_reopen.specs.Node.{Node, position_in, rows_in}
use Rattle.als_store.specs.Stored.{Stored}
use Rattle.als_store.specs.Warm.{WasWarm}

-- a store over a log, what a control block says, and pages: all of the log is written and synced
abbrev pub opened : ℕ → ℕ → List Record → Said → Pooled → ℕ → ℕ → Stored
opened pages blocks log said pool failures attempts = record {
  pages = pages;
  log = log;
  pool = pool;
  blocks = blocks;
  written = end_of log;
  synced = end_of log;
  control = said.state;
  since = [];
  held = held_of said.state.published said.checkpoint;
  begun = None;
  broken = false;
  failures = failures;
  attempts = attempts;
  origin = record {
    log = log;
    control = said.state;
    since = [];
    held = held_of said.state.published said.checkpoint;
    begun = None;
    pool = pool;
  };
  recovering = true;
}

-- what the control block of a store says that was just opened
abbrev pub said_in : Stored → Said
said_in s = record { state = s.control; checkpoint = held_at s.held s.control.published }

-- What an opened store is, whatever the devices held: its log is valid, ends at the mark, and fits
-- the device with its reserve; the checkpoint is the published one, none where none is published, and
-- that of a front of it; no page was read, and what waits for each are its changes from where a
-- restart looks for them. No page is lent, and the first lease gets number 1.
pub record IsOpened (pages blocks failures attempts : ℕ) (s : Stored) : Type 0 where
  pub said : Said
  pub is : s ≡ opened pages blocks s.log said s.pool failures attempts
  pub valid : IsValidLog pages s.log
  pub ends : end_of s.log ≡ said.state.mark.0
  pub fits : end_of s.log + reserve_of s.log ≤ 512 * blocks
  pub front : IfSome said.checkpoint (IsOfFront s.log)
  pub published : IsPublished pages said.state.published said.state.position.0 said.checkpoint
  pub count : length s.pool.waits ≡ pages
  pub queues : QueuesOf s.log s.pool
  pub rows : HasRowsFrom (position_in said) (rows_in said) s.pool
  pub unlent : leases_of s.pool ≡ 0
  pub numbered : s.pool.next ≡ Some 1

-- the store holds what the devices held, and all that is true of what sound devices hold
pub record TakesUp (n : Node) (s : Stored) : Type 0 where
  pub log : s.log ≡ n.log
  pub control : s.control ≡ n.said.state
  pub held : s.held ≡ held_of n.said.state.published n.said.checkpoint
  pub queues : QueuesOf n.log s.pool
  pub rows : HasRowsFrom (position_in n.said) (rows_in n.said) s.pool
  pub warm : WasWarm s
