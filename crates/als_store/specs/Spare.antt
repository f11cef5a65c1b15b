-- What a store can take with no memory.
use Rattle.std.specs.Prelude.{◌≡◌, ℕ, ◌≤◌, Bool, true, IfSome}
use Rattle.als_record.specs.declared.record.Record.{Record}
use Rattle.als_record.specs.Spelling.{record_len}
use Rattle.als_record.specs.Pages.{change_of}
use Rattle.als_pool.specs.Pooled.{Held, Room}
use Rattle.als_pool.specs.Outcomes.{HasPlace}
use Rattle.als_store.specs.Stored.{Stored}

-- how many bytes of the log, whether there is room for what the validator keeps of one more record,
-- and the pool's room: for how many frames, for which pages there is room for one more change, and
-- how many leases
pub record Spare : Type 0 where
  pub bytes : ℕ
  pub judge : Bool
  pub pool : Room

-- a record can be taken with no memory
pub record HasSpare (spare : Spare) (r : Record) : Type 0 where
  pub bytes : record_len r ≤ spare.bytes
  pub judge : spare.judge ≡ true
  pub place : IfSome (change_of r) (λ c. HasPlace spare.pool c.key.page)

-- what could be taken with no memory still can, and for the pool's leases perhaps more
pub record KeepsRoom (old new : Spare) : Type 0 where
  pub leases : old.pool.leases ≤ new.pool.leases
  pub same : new ≡ record old { pool = record old.pool { leases = new.pool.leases } }

-- what a caller sees of a store: what it holds, and what it can take with no memory
pub record Holding : Type 0 where
  pub stored : Stored
  pub spare : Spare

-- the pages, and the room beside them
abbrev pub pages_of : Holding → Held
pages_of h = record { pool = h.stored.pool; room = h.spare.pool }
