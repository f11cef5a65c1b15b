-- A checkpoint: when it is one of a database, and its one spelling as bytes.
use Rattle.std.specs.Prelude.{◌≡◌, ℕ, ◌+◌, ◌<◌, ◌^◌, Bool, true, ◌&&◌, List, [], ◌∷◌, ◌++◌, nat_le, nat_lt, Result, Ok, Err}
use Rattle.std.specs.Int.{w32, w64, to_be_bytes}
use Rattle.als_record.specs.declared.rows.LoggedTransaction.{LoggedTransaction}
use Rattle.als_record.specs.declared.rows.LoggedPage.{LoggedPage}
use Rattle.als_record.specs.declared.record.Body.{Body}
use Rattle.als_record.specs.declared.record.Body.TheVariants.{Update, Compensation, Commit, Rollback, End, BeginCheckpoint, EndCheckpoint, Prepare}
use Rattle.als_record.specs.Spelling.{body_bytes, IsBody}
use Rattle.als_ckpt_codec.specs.declared.fault.Fault.{Fault}
use Rattle.als_ckpt_codec.specs.declared.fault.Fault.TheVariants.{BadControl, Memory}
use Rattle.als_ckpt_codec.specs.declared.numbers.Numbers.{Numbers}
use Rattle.als_ckpt_codec.specs.declared.checkpoint.Checkpoint.{Checkpoint}

-- the two tables, as the body of an end_chkpt
abbrev pub tables : Checkpoint → Body
tables c = EndCheckpoint c.transactions c.pages

-- the numbers: position, greatest TransID, the open begin_chkpt, how many commits, and the last of them; 36 bytes
unfoldable pub numbers_bytes : Numbers → List ℕ
numbers_bytes n = to_be_bytes w64 n.position.0 ++ (to_be_bytes w32 n.greatest.0 ++ (to_be_bytes w64 n.open_checkpoint.0 ++ (to_be_bytes w64 n.commits ++ to_be_bytes w64 n.last_commit.0)))

-- the bytes of a checkpoint: the numbers, then the tables as an end_chkpt spells them
unfoldable pub checkpoint_bytes : Checkpoint → List ℕ
checkpoint_bytes c = numbers_bytes c.numbers ++ body_bytes (tables c)

-- the numbers fit their fields
pub record AreNumbers (n : Numbers) : Type 0 where
  pub position : n.position.0 < 2 ^ 64
  pub greatest : n.greatest.0 < 2 ^ 32
  pub open_checkpoint : n.open_checkpoint.0 < 2 ^ 64
  pub commits : n.commits < 2 ^ 64
  pub last_commit : n.last_commit.0 < 2 ^ 64

-- TransIDs rise from the least that may come on, and each state is active, committed, rolling back or prepared
abbrev pub are_transactions : ℕ → List LoggedTransaction → Bool
are_transactions least [] = true
are_transactions least (t ∷ rest) = nat_le least t.trans.0 && (nat_le 1 t.state && (nat_le t.state 4 && are_transactions (t.trans.0 + 1) rest))

-- pages rise from the least that may come on, and each is below the page count
abbrev pub are_pages : ℕ → ℕ → List LoggedPage → Bool
are_pages count least [] = true
are_pages count least (p ∷ rest) = nat_le least p.page && (nat_lt p.page count && are_pages count (p.page + 1) rest)

-- A checkpoint of a database with so many pages, at a position.
pub record IsCheckpoint (pages position : ℕ) (c : Checkpoint) : Type 0 where
  pub at : c.numbers.position.0 ≡ position
  pub numbers : AreNumbers c.numbers
  pub tables : IsBody pages (tables c)
  pub transactions : are_transactions 0 c.transactions ≡ true
  pub dirty : are_pages pages 0 c.pages ≡ true

-- The bytes begin with the spelling of a checkpoint, whatever follows it.
pub record BeginsWith (bytes : List ℕ) (c : Checkpoint) : Type 0 where
  pub rest : List ℕ
  pub spelled : bytes ≡ checkpoint_bytes c ++ rest

-- The bytes begin with the spelling of two tables, whose rows fit their fields.
pub record BeginsWithTables (pages : ℕ) (bytes : List ℕ) (transactions : List LoggedTransaction) (dirty : List LoggedPage) : Type 0 where
  pub rest : List ℕ
  pub spelled : bytes ≡ body_bytes (EndCheckpoint transactions dirty) ++ rest
  pub fits : IsBody pages (EndCheckpoint transactions dirty)

-- the tables of an end_chkpt
abbrev pub tables_of : Body → Result (List LoggedTransaction × List LoggedPage) Fault
tables_of (Update key before after) = Err BadControl
tables_of (Compensation undo_next key after) = Err BadControl
tables_of Commit = Err BadControl
tables_of Rollback = Err BadControl
tables_of End = Err BadControl
tables_of BeginCheckpoint = Err BadControl
tables_of (EndCheckpoint transactions dirty) = Ok (transactions, dirty)
tables_of Prepare = Err BadControl

-- What was found is this, or memory ran out.
abbrev pub Finds : {X : Type 0} → X → Result X Fault → Type 0
Finds x (Ok found) = found ≡ x
Finds x (Err fault) = fault ≡ Memory
