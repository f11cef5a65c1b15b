-- The one spelling of a record as bytes: a head of 28 bytes, and a body. Numbers are big-endian.
use Rattle.std.specs.Prelude.{ℕ, ◌+◌, ◌*◌, ◌<◌, ◌≤◌, ◌^◌, List, [], ◌∷◌, ◌++◌, length, Option, Some, None}
use Rattle.std.specs.List.{flat_map, AllByRecursion}
use Rattle.std.specs.Int.{w16, w32, w64, to_be_bytes}
use Rattle.arrayvec.specs.ArrayVec.{ArrayVec}
use Rattle.als_record.specs.declared.key.Key.{Key}
use Rattle.als_record.specs.declared.rows.LoggedTransaction.{LoggedTransaction}
use Rattle.als_record.specs.declared.rows.LoggedPage.{LoggedPage}
use Rattle.als_record.specs.declared.record.Body.{Body}
use Rattle.als_record.specs.declared.record.Body.TheVariants.{Update, Compensation, Commit, Rollback, End, BeginCheckpoint, EndCheckpoint, Prepare}
use Rattle.als_record.specs.declared.record.Record.{Record}

-- a key's value of up to 31 bytes, or nothing
abbrev pub Image : Type 0
Image = Option (ArrayVec ℕ)

-- the byte that stands for a record's type
abbrev pub type_byte : Body → ℕ
type_byte (Update key before after) = 1
type_byte (Compensation undo_next key after) = 2
type_byte Commit = 3
type_byte Rollback = 4
type_byte End = 5
type_byte BeginCheckpoint = 6
type_byte (EndCheckpoint transactions pages) = 7
type_byte Prepare = 8

-- the byte that stands for an image's length: 255 says that it is absent
abbrev pub length_byte : Image → ℕ
length_byte None = 255
length_byte (Some value) = length value.items

-- the bytes of an image, behind its length byte
abbrev pub image_bytes : Image → List ℕ
image_bytes None = []
image_bytes (Some value) = value.items

-- how many bytes an image has
abbrev pub image_len : Image → ℕ
image_len image = length (image_bytes image)

-- the common head: the whole record's length, its type, three zeros, its own LSN, PrevLSN and TransID
unfoldable pub head : ℕ → ℕ → ℕ → ℕ → ℕ → List ℕ
head size kind lsn prev trans = to_be_bytes w32 size ++ (kind ∷ 0 ∷ 0 ∷ 0 ∷ []) ++ to_be_bytes w64 lsn ++ to_be_bytes w64 prev ++ to_be_bytes w32 trans

-- a row of the transaction table, 21 bytes
unfoldable pub transaction_row : LoggedTransaction → List ℕ
transaction_row t = to_be_bytes w32 t.trans.0 ++ (t.state ∷ []) ++ to_be_bytes w64 t.last.0 ++ to_be_bytes w64 t.undo_next.0

-- a row of the dirty page table, 12 bytes
unfoldable pub page_row : LoggedPage → List ℕ
page_row p = to_be_bytes w32 p.page ++ to_be_bytes w64 p.rec_lsn.0

-- what follows the head
unfoldable pub body_bytes : Body → List ℕ
body_bytes (Update key before after) = to_be_bytes w32 key.page ++ (key.slot ∷ length_byte before ∷ length_byte after ∷ []) ++ image_bytes before ++ image_bytes after
body_bytes (Compensation undo_next key after) = to_be_bytes w64 undo_next.0 ++ to_be_bytes w32 key.page ++ (key.slot ∷ length_byte after ∷ []) ++ image_bytes after
body_bytes Commit = []
body_bytes Rollback = []
body_bytes End = []
body_bytes BeginCheckpoint = []
body_bytes (EndCheckpoint transactions pages) = to_be_bytes w16 (length transactions) ++ to_be_bytes w16 (length pages) ++ flat_map transaction_row transactions ++ flat_map page_row pages
body_bytes Prepare = []

-- the length of a body
abbrev pub body_len : Body → ℕ
body_len (Update key before after) = 7 + image_len before + image_len after
body_len (Compensation undo_next key after) = 14 + image_len after
body_len Commit = 0
body_len Rollback = 0
body_len End = 0
body_len BeginCheckpoint = 0
body_len (EndCheckpoint transactions pages) = 4 + 21 * length transactions + 12 * length pages
body_len Prepare = 0

-- the length of a whole record
unfoldable pub record_len : Record → ℕ
record_len r = 28 + body_len r.body

-- the bytes of a record
unfoldable pub spelling : Record → List ℕ
spelling r = head (record_len r) (type_byte r.body) r.lsn.0 r.prev.0 r.trans.0 ++ body_bytes r.body

-- ---- what can be spelled

-- a key of a database with this many pages: slots are 0 to 14
pub record IsKey (pages : ℕ) (key : Key) : Type 0 where
  pub page : key.page < pages
  pub width : key.page < 2 ^ 32
  pub slot : key.slot ≤ 14

-- an image of at most 31 bytes
pub record IsImage (image : Image) : Type 0 where
  pub size : image_len image ≤ 31
  pub bytes : AllByRecursion (λ b. b < 256) (image_bytes image)

pub record IsLoggedTransaction (t : LoggedTransaction) : Type 0 where
  pub trans : t.trans.0 < 2 ^ 32
  pub state : t.state < 256
  pub last : t.last.0 < 2 ^ 64
  pub undo_next : t.undo_next.0 < 2 ^ 64

pub record IsLoggedPage (p : LoggedPage) : Type 0 where
  pub page : p.page < 2 ^ 32
  pub rec_lsn : p.rec_lsn.0 < 2 ^ 64

-- a body whose fields fit their widths, with its key in range
abbrev pub IsBody : ℕ → Body → Type 0
IsBody pages (Update key before after) = IsKey pages key × IsImage before × IsImage after
IsBody pages (Compensation undo_next key after) = (undo_next.0 < 2 ^ 64) × IsKey pages key × IsImage after
IsBody pages Commit = Unit {0}
IsBody pages Rollback = Unit {0}
IsBody pages End = Unit {0}
IsBody pages BeginCheckpoint = Unit {0}
IsBody pages (EndCheckpoint transactions rows) = (length transactions ≤ 256) × (length rows ≤ 4096) × AllByRecursion IsLoggedTransaction transactions × AllByRecursion IsLoggedPage rows
IsBody pages Prepare = Unit {0}

-- a record of a database with this many pages: each field fits its width, and its key is in range
pub record IsRecord (pages : ℕ) (r : Record) : Type 0 where
  pub lsn : r.lsn.0 < 2 ^ 64
  pub prev : r.prev.0 < 2 ^ 64
  pub trans : r.trans.0 < 2 ^ 32
  pub body : IsBody pages r.body
