-- The commits of a log with what they write: what readers of a standby may see.
use Rattle.std.specs.Prelude.{ℕ, List, map, filter, filter_map, flat_map, fold, Option, Some, None, if◌then◌else◌}
use Rattle.als_record.specs.declared.lsn.Lsn.{Lsn}
use Rattle.als_record.specs.declared.trans_id.TransId.{TransId}
use Rattle.als_record.specs.declared.key.Key.{Key}
use Rattle.als_record.specs.declared.record.Body.{Body}
use Rattle.als_record.specs.declared.record.Body.TheVariants.{Update}
use Rattle.als_record.specs.declared.record.Record.{Record}
use Rattle.als_record.specs.Spelling.{Image}
use Rattle.als_record.specs.Images.{same_key}
use Rattle.als_record.specs.Transactions.{is_commit, surviving}

-- a key and the image that it gets
pub record Write : Type 0 where
  pub key : Key
  pub after : Image

-- a commit: its TransID, the LSN of its commit record, and the writes that survive, in order
pub record Commit : Type 0 where
  pub trans : TransId
  pub lsn : Lsn
  pub writes : List Write

-- what an update writes
abbrev pub write_of : Body → Option Write
write_of (Update key before after) = Some (record { key = key; after = after })
write_of _ = None

-- the surviving writes of a transaction, in order
unfoldable pub writes_of : List Record → ℕ → List Write
writes_of log t = filter_map (λ u. write_of u.body) (surviving log t)

-- the commits of a log, in order
unfoldable pub commits_of : List Record → List Commit
commits_of log = map (λ r. record { trans = r.trans; lsn = r.lsn; writes = writes_of log r.trans.0 }) (filter (λ r. is_commit r.body) log)

-- what a key has after one more write
abbrev pub after_write : Key → Image → Write → Image
after_write k image w = if same_key w.key k then w.after else image

-- what readers see at a key after these commits, one after another: the last write there, absent if there is none
unfoldable pub seen_after : List Commit → Key → Image
seen_after commits k = fold (after_write k) None (flat_map (λ c. c.writes) commits)
