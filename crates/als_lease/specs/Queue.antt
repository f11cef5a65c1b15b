-- The changes that wait for one page.
use Rattle.std.specs.Prelude.{ℕ, suc, Bool, false, List, [], ◌∷◌, nat_le, if◌then◌else◌}
use Rattle.als_record.specs.declared.change.Change.{Change}
use Rattle.als_record.specs.declared.lsn.Lsn.{Lsn}

-- the changes of a page that are not redone yet, in order, and whether there is room for one more
pub record Queue : Type 0 where
  pub pending : List Change
  pub has_room : Bool

-- a queue in which nothing waits, with no room
abbrev pub empty_queue : Queue
empty_queue = record { pending = []; has_room = false }

-- 1 where changes wait for a page, else 0
abbrev pub flag_of : List Change → ℕ
flag_of [] = 0
flag_of (c ∷ rest) = 1

-- how many of the first changes stand at or below an LSN, up to the first above it
abbrev pub count_up_to : Lsn → List Change → ℕ
count_up_to lsn [] = 0
count_up_to lsn (c ∷ rest) = if nat_le c.lsn.0 lsn.0 then suc (count_up_to lsn rest) else 0
