-- What is kept for each key: what it has now, and which transaction may hold it.
use Rattle.std.specs.Prelude.{◌≡◌, ℕ, ◌+◌, ◌*◌, ◌≤◌, ◌<◌, ◌==◌, false, List, [], ◌∷◌, length, slice_index_or, if◌then◌else◌}
use Rattle.als_record.specs.declared.key.Key.{Key}
use Rattle.als_record.specs.declared.record.Record.{Record}
use Rattle.als_record.specs.Transactions.{to_undo, is_committed, has_ended}
use Rattle.als_record.specs.Images.{image_now, is_update_at}
use Rattle.als_validator.specs.declared.key_state.KeyState.{KeyState}

-- how many of these updates are of a key
abbrev pub updates_at : Key → List Record → ℕ
updates_at k [] = 0
updates_at k (u ∷ rest) = (if is_update_at k u.body then 1 else 0) + updates_at k rest

-- What is kept of a key is that of the log. Of the transactions that have neither committed nor ended only the one that is
-- kept has surviving updates of the key, so many as are counted. Of one that is over nothing is said.
pub record IsKeyOf (kept : KeyState) (log : List Record) (k : Key) : Type 0 where
  pub image : kept.image ≡ image_now log k
  pub held : (t : ℕ) → is_committed log t ≡ false → has_ended log t ≡ false → updates_at k (to_undo log t) ≡ (if t == kept.holder.0 then kept.count else 0)

-- where a key is kept: 15 slots a page
abbrev pub place_of : Key → ℕ
place_of k = k.page * 15 + k.slot

-- what is kept of each key of a database with this many pages
pub record AreKeysOf (kept : List KeyState) (pages : ℕ) (log : List Record) : Type 0 where
  pub count : length kept ≡ pages * 15
  pub each : (k : Key) (d : KeyState) → k.page < pages → k.slot ≤ 14 → IsKeyOf (slice_index_or kept (place_of k) d) log k
