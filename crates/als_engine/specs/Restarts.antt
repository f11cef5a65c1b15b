-- What a crash leaves of an engine, and what a restart makes of it.
use Rattle.std.specs.Prelude.{◌≡◌, ℕ, true, false, [], length, Some, None}
use Rattle.als_record.specs.LogText.{end_of}
use Rattle.als_disk.specs.Slot.{Slot}
use Rattle.als_reopen.specs.declared.fault.Fault.{Fault as OpenFault}
use Rattle.als_ckpt.specs.Regions.{held_of}
use Rattle.als_pool.specs.Images.{QueuesOf}
use Rattle.als_pool.specs.Pooled.{leases_of}
use Rattle.als_pool.specs.Restart.{HasRowsFrom}
use Rattle.als_reopen.specs.Node.{Node, HoldsLog, IsNode, position_in, rows_in}
use Rattle.als_reopen.specs.Outcomes.{AreSettled, RefusesOpen}
use Rattle.als_store.specs.Leaving.{MayLeave}
use Rattle.als_store.specs.Opening.{IsOpened, said_in}
use Rattle.als_store.specs.Stored.{acknowledged}
use Rattle.als_store.specs.Staying.{StaysNode}
use Rattle.als_store.specs.Warm.{WasWarm, now_of}
use Rattle.als_engine.specs.declared.config.Config.{Config}
use Rattle.als_engine.specs.declared.fault.Fault.{Fault}
use Rattle.als_engine.specs.Config.{IsConfig, IsWorld}
use Rattle.als_engine.specs.Faults.{from_open}
use Rattle.als_engine.specs.Machine.{Machine}

-- the engine was made over sound devices, and so its pages, its checkpoints and its takeover are
-- still those of its log
abbrev pub IsWarm : Machine → Type 0
IsWarm m = WasWarm m.held

-- an engine made with this configuration
pub record IsMadeWith (config : Config) (m : Machine) : Type 0 where
  pub numbers : IsConfig config
  pub pages : m.held.pages ≡ config.pages
  pub limit : m.limit ≡ config.pending

-- Stopped devices, each block of which has one content, hold this log, control state and
-- checkpoint; and they are large enough for the configuration: the log's so many blocks, the
-- control block's, and the pages'.
pub record Holds (config : Config) (log_blocks control_blocks page_blocks : ℕ)
    (log control pages : ℕ → Slot) (n : Node) : Type 0 where
  pub large : IsWorld config log_blocks control_blocks page_blocks
  pub log_settled : AreSettled log
  pub control_settled : AreSettled control
  pub pages_settled : AreSettled pages
  pub node : IsNode config.pages log_blocks log control pages n

-- Devices that held it were not taken up again: they hold it on.
pub record StillHolds (config : Config) (log_blocks control_blocks page_blocks : ℕ)
    (log control pages : ℕ → Slot) (n : Node) : Type 0 where
  pub large : IsWorld config log_blocks control_blocks page_blocks
  pub stays : StaysNode config.pages log_blocks log control pages n

-- A crash may leave this of an engine: one of the control states that were synced or written since,
-- and the front of the log that ends at its mark. What is acknowledged stays so, the phase does not
-- fall, and past Following the seal stays.
pub record Leaves (old : Machine) (n : Node) : Type 0 where
  pub may : MayLeave old.held n
  pub ends : end_of n.log ≡ n.said.state.mark.0

-- An engine that begins again with what sound devices held, its checkpoint too: nothing is unsynced,
-- partial or refused. No page was read; what waits for each are its changes from where a restart
-- looks for them. No page is lent, and leases are numbered from 1 again. It is recovering, and
-- readers have no list of commits yet.
pub record IsStarted (config : Config) (n : Node) (new : Machine) : Type 0 where
  pub made : IsMadeWith config new
  pub warm : IsWarm new
  pub blocks : new.held.blocks ≡ n.blocks
  pub log : new.held.log ≡ n.log
  pub control : new.held.control ≡ n.said.state
  pub held : new.held.held ≡ held_of n.said.state.published n.said.checkpoint
  pub frames : new.held.pool.frames.most ≡ config.frames
  pub count : length new.held.pool.waits ≡ config.pages
  pub queues : QueuesOf n.log new.held.pool
  pub rows : HasRowsFrom (position_in n.said) (rows_in n.said) new.held.pool
  pub unlent : leases_of new.held.pool ≡ 0
  pub numbered : new.held.pool.next ≡ Some 1
  pub origin : new.held.origin ≡ now_of new.held
  pub since : new.held.since ≡ []
  pub begun : new.held.begun ≡ None
  pub running : new.held.broken ≡ false
  pub recovering : new.held.recovering ≡ true
  pub written : new.held.written ≡ end_of n.log
  pub synced : new.held.synced ≡ end_of n.log
  pub partial : new.partial ≡ []
  pub refused : new.refused ≡ None
  pub listed : new.listed ≡ false
  pub published : new.published ≡ 0

-- ---- whatever the pages hold

-- An engine that begins again with the log that the devices hold, and with what their control block
-- says, its checkpoint too. All of the log is acknowledged: it ends at the mark.
pub record TakesUpLog (n : Node) (new : Machine) : Type 0 where
  pub log : new.held.log ≡ n.log
  pub said : said_in new.held ≡ n.said
  pub ends : acknowledged new.held ≡ end_of n.log

-- Devices hold a log, whatever the pages hold: each block of the log's and of the control block's
-- device has one content, and they are large enough for the configuration.
pub record HoldsLogFor (config : Config) (log_blocks control_blocks page_blocks : ℕ)
    (log control : ℕ → Slot) (n : Node) : Type 0 where
  pub large : IsWorld config log_blocks control_blocks page_blocks
  pub log_settled : AreSettled log
  pub control_settled : AreSettled control
  pub held : HoldsLog config.pages log_blocks log control n

-- ---- over any contents

-- An engine over devices that may have held anything: its log is valid, ends at the mark, is all
-- synced and fits the device with its tail; what waits for each page are its changes from where a
-- restart looks for them. Nothing is partial or refused, it is recovering, and readers have no
-- list.
pub record IsRestarted (config : Config) (blocks failures attempts : ℕ) (m : Machine) : Type 0 where
  pub made : IsMadeWith config m
  pub held : IsOpened config.pages blocks failures attempts m.held
  pub partial : m.partial ≡ []
  pub refused : m.refused ≡ None
  pub listed : m.listed ≡ false
  pub published : m.published ≡ 0

-- Devices that are large enough are refused by the store's fault: a device has failed, a growth was
-- refused, or the devices, as they are handed back, hold no log, and the fault is the first that is
-- met in reading them.
pub record RefusesRestart (config : Config) (blocks : ℕ) (log control : ℕ → Slot)
    (before now : ℕ) (fault : Fault) : Type 0 where
  pub cause : OpenFault
  pub answer : fault ≡ from_open cause
  pub stands : RefusesOpen cause config.pages blocks log control before now
