-- What a transaction asks of the log, and what is known of a key that is free.
use Rattle.std.specs.Prelude.{◌≡◌, ℕ, ◌<◌, ◌≤◌, nat_lt, Bool, true, false, not, ◌&&◌, List, [], ◌∷◌, ◌++◌, length, map, filter, take, Some, None, All, Contains, if◌then◌else◌}
use Rattle.als_record.specs.declared.key.Key.{Key}
use Rattle.als_record.specs.declared.lsn.Lsn.{Lsn}
use Rattle.als_record.specs.declared.trans_id.TransId.{TransId}
use Rattle.als_record.specs.declared.record.Body.TheVariants.{Update}
use Rattle.als_record.specs.declared.record.Record.{Record}
use Rattle.als_record.specs.Spelling.{Image, IsKey}
use Rattle.als_record.specs.LogText.{end_of}
use Rattle.als_record.specs.Transactions.{has_begun}
use Rattle.als_record.specs.Images.{image_now, same_image}
use Rattle.als_record.specs.Validity.{held_by}
use Rattle.als_record.specs.Commits.{Write}
use Rattle.als_writing.specs.Writing.{last_write, is_free}
use Rattle.als_engine.specs.Machine.{Machine}
use Rattle.als_engine.specs.Refusals.{feed_refusal}
use Rattle.als_writer.specs.declared.ask.Ask.{Ask}
use Rattle.als_writer.specs.declared.ask.Ask.TheVariants.{Is, Unchanged}
use Rattle.als_writer.specs.declared.unmet.Unmet.{Unmet}
use Rattle.als_writer.specs.Changes.{is_below}
use Rattle.als_writer.specs.Checking.{key_asked}
use Rattle.als_writer.specs.Placing.{AreBefores}

-- an ask holds of a log: an LSN at or past its end is none of it
abbrev pub IsAsked : List Record → Ask → Type 0
IsAsked log (Is key image) = image_now log key ≡ image
IsAsked log (Unchanged key since) = (since.0 < end_of log) × (last_write log key ≤ since.0)

-- another transaction holds the key against any one that has no record yet
abbrev pub IsHeldBy : List Record → Key → TransId → Type 0
IsHeldBy log key by = (r : Record) (before after : Image) → r.body ≡ Update key before after → has_begun log r.trans.0 ≡ false → held_by log r ≡ Some by

-- what a key has, which is free for a new transaction, of an engine that takes records
pub record IsFreeNow (m : Machine) (key : Key) (image : Image) : Type 0 where
  pub takes : feed_refusal m ≡ None
  pub in_range : IsKey m.held.pages key
  pub now : image ≡ image_now m.held.log key
  pub free : (t : ℕ) → has_begun m.held.log t ≡ false → is_free m.held.log t key ≡ true

-- what each key to be set has, all of which are free
pub record AreFreeNow (m : Machine) (ws : List Write) (befores : List Image) : Type 0 where
  pub takes : 0 < length ws → feed_refusal m ≡ None
  pub now : AreBefores m.held.log ws befores
  pub free : (t : ℕ) → has_begun m.held.log t ≡ false → All (λ w. is_free m.held.log t w.key ≡ true) ws

-- an ask does not hold of a log; of one for a key that is unchanged nothing is said, since a bound of its last commit was asked
abbrev pub IsFailed : List Record → Ask → Type 0
IsFailed log (Is key image) = image_now log key ≡ image → ⊥
IsFailed log (Unchanged key since) = Unit {0}

-- one of the asks is for the key and does not hold, and this is what the key has
pub record IsUnmet (log : List Record) (asks : List Ask) (key : Key) (now : Image) : Type 0 where
  pub ask : Ask
  pub among : Contains asks ask
  pub key_is : key_asked ask ≡ key
  pub failed : IsFailed log ask
  pub now_is : now ≡ image_now log key

-- asks do not hold, and these are the keys of some and what those have
pub record AreUnmet (log : List Record) (asks : List Ask) (failing : List Unmet) : Type 0 where
  pub some : 0 < length failing
  pub each : All (λ u. IsUnmet log asks u.key u.image) failing

-- what is shown of an ask: its key, and what that has
abbrev pub unmet_of : List Record → Ask → Unmet
unmet_of log ask = record { key = key_asked ask; image = image_now log (key_asked ask) }

-- The first eight of the asks that do not hold, in their order, and all where they are fewer: each other ask holds.
pub record AreFailing (log : List Record) (asks : List Ask) (failing : List Unmet) : Type 0 where
  pub fails : Ask → Bool
  pub failed : (ask : Ask) → fails ask ≡ true → IsFailed log ask
  pub asked : (ask : Ask) → Contains asks ask → fails ask ≡ false → IsAsked log ask
  pub first : failing ≡ take 8 (map (unmet_of log) (filter fails asks))

-- whether an LSN is below the log's end, and at or above the bound of a key's last commit
abbrev pub is_since : List ℕ → List Record → Key → Lsn → Bool
is_since bounds log key since = nat_lt since.0 (end_of log) && is_below bounds key since

-- whether an ask is met, by these bounds of the last commits
abbrev pub is_met : List ℕ → List Record → Ask → Bool
is_met bounds log (Is key image) = same_image image (image_now log key)
is_met bounds log (Unchanged key since) = is_since bounds log key since

-- what is shown of those that are not met by them
abbrev pub unmet_by : List ℕ → List Record → List Ask → List Unmet
unmet_by bounds log asks = map (unmet_of log) (filter (λ a. not (is_met bounds log a)) asks)

-- the same, with one more ask, which is met or is shown
abbrev pub with_next : Bool → Unmet → List Unmet → List Unmet
with_next met next failing = if met then failing else take 8 (failing ++ next ∷ [])
