-- What a primary appends to a log for one transaction of its own, one record after another: updates, commit and end, or updates,
-- their compensations and end.
use Rattle.std.specs.Prelude.{ℕ, ◌==◌, ◌+◌, ◌<◌, ◌^◌, nat_lt, Bool, not, ◌&&◌, ◌||◌, List, [], ◌∷◌, ◌++◌, length, map, fold, reverse, sum_by, IsTrue, if◌then◌else◌}
use Rattle.std.specs.List.{list_any, AllByRecursion}
use Rattle.als_record.specs.declared.key.Key.{Key}
use Rattle.als_record.specs.declared.record.Body.{Body}
use Rattle.als_record.specs.declared.record.Body.TheVariants.{Update, Commit, End, Prepare}
use Rattle.als_record.specs.declared.record.Record.{Record}
use Rattle.als_record.specs.Spelling.{IsKey, IsImage, record_len}
use Rattle.als_record.specs.LogText.{end_of}
use Rattle.als_record.specs.Transactions.{is_committed, has_rollback, has_prepare, is_unended, is_open, unended, greatest_trans, all_surviving}
use Rattle.als_record.specs.Images.{same_key, image_now, is_update_at}
use Rattle.als_record.specs.Validity.{prev_of}
use Rattle.als_record.specs.Tail.{undone, undo_len}
use Rattle.als_record.specs.Commits.{Write, commits_of}

-- what a transaction does next: it gives a key an image, undoes an update of its own, commits, ends, or prepares
pub data Move : Type 0 where
  Writes : Write → Move
  Undoes : Record → Move
  Commits : Move
  Ends : Move
  Prepares : Move

-- the body of a move's record where it follows a log: an update's before image is what its key has now
abbrev pub body_for : List Record → Move → Body
body_for log (Writes w) = Update w.key (image_now log w.key) w.after
body_for log (Undoes u) = undone u.prev u.body
body_for log Commits = Commit
body_for log Ends = End
body_for log Prepares = Prepare

-- the record of a transaction's move where it follows a log
abbrev pub record_for : List Record → ℕ → Move → Record
record_for log t move = record { lsn = record { 0 = end_of log }; prev = record { 0 = prev_of log t }; trans = record { 0 = t }; body = body_for log move }

-- the records of a transaction's moves, which follow a log one after another
unfoldable pub moved : List Record → ℕ → List Move → List Record
moved log t [] = []
moved log t (move ∷ rest) = record_for log t move ∷ moved (log ++ record_for log t move ∷ []) t rest

-- the updates of a transaction, in the order of its writes
unfoldable pub updates : List Record → ℕ → List Write → List Record
updates log t writes = moved log t (map Writes writes)

-- a whole transaction: its updates, its commit and its end
unfoldable pub transaction : List Record → ℕ → List Write → List Record
transaction log t writes = moved log t (map Writes writes ++ Commits ∷ Ends ∷ [])

-- a transaction whose coordinator decides it: its updates and its prepare record
unfoldable pub prepared : List Record → ℕ → List Write → List Record
prepared log t writes = moved log t (map Writes writes ++ Prepares ∷ [])

-- a compensation for each of these updates, the last one first, and the end
unfoldable pub rollback : List Record → ℕ → List Record → List Record
rollback log t us = moved log t (map Undoes (reverse us) ++ Ends ∷ [])

-- these updates of a transaction, and then all of them undone
abbrev pub rolled_back : List Record → ℕ → List Record → List Record
rolled_back log t us = us ++ rollback (log ++ us) t us

-- The most room that a transaction takes on the way, its reserve with it: its updates, the compensations that would undo them, and
-- the end behind these.
unfoldable pub room_for : List Record → ℕ → List Write → ℕ
room_for log t writes = sum_by record_len (updates log t writes) + 28 + sum_by undo_len (updates log t writes)

-- the LSN of the last commit that wrote a key, 0 if none did
unfoldable pub last_write : List Record → Key → ℕ
last_write log k = fold (λ last c. if list_any (λ w. same_key w.key k) c.writes then c.lsn.0 else last) 0 (commits_of log)

-- no other open transaction has a surviving update of the key
unfoldable pub is_free : List Record → ℕ → Key → Bool
is_free log t key = not (list_any (λ u. is_update_at key u.body && not (u.trans.0 == t) && is_open log u.trans.0) (all_surviving log))

-- a new transaction: its number is above all of the log, and one more unended transaction fits
unfoldable pub is_new : List Record → ℕ → Bool
is_new log t = nat_lt (greatest_trans log) t && nat_lt (length (unended log)) 256

-- a transaction that may write, undo, commit or end: new, or unended with updates and compensations alone
unfoldable pub is_active : List Record → ℕ → Bool
is_active log t = is_new log t || (is_unended log t && not (is_committed log t) && not (has_rollback log t) && not (has_prepare log t))

-- a new transaction with this number may make these writes
pub record MayWrite (pages : ℕ) (log : List Record) (t : ℕ) (writes : List Write) : Type 0 where
  pub new : IsTrue (is_new log t)
  pub width : t < 2 ^ 32
  pub free : AllByRecursion (λ w. IsTrue (is_free log t w.key)) writes
  pub keys : AllByRecursion (λ w. IsKey pages w.key) writes
  pub images : AllByRecursion (λ w. IsImage w.after) writes
