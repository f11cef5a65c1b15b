-- The surviving updates of the unended transactions, and how they are kept: a list for each, with room but at one place.
use Rattle.std.specs.Prelude.{◌≡◌, ℕ, ◌-◌, ◌<◌, Bool, true, List, [], ◌∷◌, ◌++◌, length, take, map, slice_index_or, slice_set, if◌then◌else◌}
use Rattle.std.specs.List.{All}
use Rattle.als_record.specs.declared.record.Body.{Body}
use Rattle.als_record.specs.declared.record.Body.TheVariants.{Update, Compensation}
use Rattle.als_record.specs.declared.record.Record.{Record}
use Rattle.als_record.specs.Transactions.{is_unended, surviving, unended}

-- surviving updates in order, and how many more updates can be kept without memory
pub record Left : Type 0 where
  pub left : List Record
  pub room : ℕ

-- the surviving updates after one more record of the transaction
abbrev pub left_after : List Record → Record → Body → List Record
left_after left r (Update key before after) = left ++ r ∷ []
left_after left r (Compensation undo_next key after) = take (length left - 1) left
left_after left r _ = left

-- the surviving updates of each
abbrev pub lists_of : List Left → List (List Record)
lists_of entries = map (λ o. o.left) entries

-- the surviving updates of each transaction, in the order of the rows, and whether there is room for one more record whatever it is
pub record Lists : Type 0 where
  pub lists : List (List Record)
  pub has_room : Bool

-- these are the surviving updates of the unended transactions of the log
abbrev pub AreSurvivorsOf : Lists → List Record → Type 0
AreSurvivorsOf lists log = lists.lists ≡ map (surviving log) (unended log)

-- the surviving updates of an unended transaction, none of another one
abbrev pub survivors_in : List Record → ℕ → List Record
survivors_in log t = if is_unended log t then surviving log t else []

-- room for one more record: of each transaction, and for a new one
pub record IsRoomy (entries spares : List Left) (capacity : ℕ) : Type 0 where
  pub each : All (λ o. 0 < o.room) entries
  pub place : length entries < capacity
  pub spare : 0 < length spares

-- What the lists keep of themselves. `tight` is the one transaction that may be without room.
pub record AreKept (entries spares : List Left) (tight : ℕ) (has_room : Bool) (capacity : ℕ) : Type 0 where
  pub spared : All (λ o. 0 < o.room) spares
  pub but_one : (k : ℕ) (d : Left) → k < length entries → (k ≡ tight → ⊥) → 0 < (slice_index_or entries k d).room
  pub room : has_room ≡ true → IsRoomy entries spares capacity

-- room for one more update at a place, if there is one; nothing else changes
pub record MakesRoom (old new : List Left) (at : ℕ) : Type 0 where
  pub entry : Left
  pub is : new ≡ slice_set old at entry
  pub left : (d : Left) → at < length old → entry.left ≡ (slice_index_or old at d).left
  pub room : at < length old → 0 < entry.room
