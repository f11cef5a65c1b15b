-- How bytes are read as a record: steps in order, of which the first that applies decides.
use Rattle.std.specs.Prelude.{◌≡◌, ℕ, zero, suc, ◌+◌, ◌*◌, Bool, not, ◌&&◌, ◌||◌, List, [], ◌∷◌, length, take, drop, slice_index, Option, Some, None, Result, Ok, Err, nat_lt, nat_le, ◌==◌, if◌then◌else◌}
use Rattle.std.specs.Int.{w16, w32, w64, from_be_bytes}
use Rattle.als_record.specs.declared.key.Key.{Key}
use Rattle.als_record.specs.declared.rows.LoggedTransaction.{LoggedTransaction}
use Rattle.als_record.specs.declared.rows.LoggedPage.{LoggedPage}
use Rattle.als_record.specs.declared.record.Body.{Body}
use Rattle.als_record.specs.declared.record.Body.TheVariants.{Update, Compensation, Commit, Rollback, End, BeginCheckpoint, EndCheckpoint, Prepare}
use Rattle.als_record.specs.declared.record.Record.{Record}
use Rattle.als_record.specs.declared.fault.Fault.{Fault}
use Rattle.als_record.specs.declared.fault.Fault.TheVariants.{BadHeader, BadLength, BadType, BadReserved, WrongLsn, BadKey, BadValue, Memory}
use Rattle.als_record.specs.Spelling.{Image}

-- What a function returned, seen by view, is what reading gives, unless memory ran out.
abbrev pub Fails : {Y : Type 0} → Fault → Result Y Fault → Type 0
Fails Memory read = Unit {0}
Fails BadLength read = read ≡ Err BadLength
Fails BadType read = read ≡ Err BadType
Fails BadReserved read = read ≡ Err BadReserved
Fails WrongLsn read = read ≡ Err WrongLsn
Fails BadKey read = read ≡ Err BadKey
Fails BadValue read = read ≡ Err BadValue
Fails BadHeader read = read ≡ Err BadHeader

abbrev pub Gives : {X Y : Type 0} → (X → Y) → Result X Fault → Result Y Fault → Type 0
Gives view (Ok x) read = read ≡ Ok (view x)
Gives view (Err e) read = Fails e read

infixl 10 ◌>>=◌
abbrev pub ◌>>=◌ : {A B : Type 0} → Result A Fault → (A → Result B Fault) → Result B Fault
(Ok x) >>= f = f x
(Err e) >>= f = Err e

-- the numbers that stand at a place
abbrev pub half_at : ℕ → List ℕ → ℕ
half_at i bytes = from_be_bytes w16 (take 2 (drop i bytes))

abbrev pub word_at : ℕ → List ℕ → ℕ
word_at i bytes = from_be_bytes w32 (take 4 (drop i bytes))

abbrev pub long_at : ℕ → List ℕ → ℕ
long_at i bytes = from_be_bytes w64 (take 8 (drop i bytes))

abbrev pub is_within : ℕ → ℕ → ℕ → Bool
is_within low high n = nat_le low n && nat_le n high

-- there are types 1 to 8
abbrev pub is_type : ℕ → Bool
is_type kind = is_within 1 8 kind

-- the lengths that a type's records may have; a type that is none may have any record's
abbrev pub is_size : ℕ → ℕ → Bool
is_size kind size =
    if kind == 1 then is_within 35 97 size
    else if kind == 2 then is_within 42 73 size
    else if kind == 7 then is_within 32 54560 size
    else if is_type kind then size == 28
    else is_within 28 54560 size

-- a length byte says absent, or up to 31
abbrev pub is_length_byte : ℕ → Bool
is_length_byte b = nat_le b 31 || (b == 255)

-- how many bytes follow for a length byte
abbrev pub len_of_byte : ℕ → ℕ
len_of_byte b = if b == 255 then 0 else b

abbrev pub image_of : ℕ → List ℕ → Image
image_of b bytes = if b == 255 then None else Some (record { items = bytes })

abbrev pub key_at : ℕ → List ℕ → Key
key_at i bytes = record { page = word_at i bytes; slot = slice_index bytes (i + 4) }

abbrev pub is_key : ℕ → Key → Bool
is_key pages key = nat_lt key.page pages && nat_le key.slot 14

-- the body of an update
unfoldable pub read_update : ℕ → List ℕ → Result Body Fault
read_update pages body =
    let before = slice_index body 5 in
    let after = slice_index body 6 in
    if not (is_key pages (key_at 0 body)) then Err BadKey
    else if not (is_length_byte before && is_length_byte after) then Err BadValue
    else if not (length body == 7 + len_of_byte before + len_of_byte after) then Err BadLength
    else Ok (Update (key_at 0 body) (image_of before (take (len_of_byte before) (drop 7 body))) (image_of after (drop (len_of_byte before) (drop 7 body))))

-- the body of a compensation
unfoldable pub read_compensation : ℕ → List ℕ → Result Body Fault
read_compensation pages body =
    let after = slice_index body 13 in
    if not (is_key pages (key_at 8 body)) then Err BadKey
    else if not (is_length_byte after) then Err BadValue
    else if not (length body == 14 + len_of_byte after) then Err BadLength
    else Ok (Compensation (record { 0 = long_at 0 body }) (key_at 8 body) (image_of after (drop 14 body)))

-- the rows that stand at the front
abbrev pub transaction_at : List ℕ → LoggedTransaction
transaction_at bytes = record { trans = record { 0 = word_at 0 bytes }; state = slice_index bytes 4; last = record { 0 = long_at 5 bytes }; undo_next = record { 0 = long_at 13 bytes } }

abbrev pub page_row_at : List ℕ → LoggedPage
page_row_at bytes = record { page = word_at 0 bytes; rec_lsn = record { 0 = long_at 4 bytes } }

-- as many rows as are counted, from the front
unfoldable pub transactions_at : ℕ → List ℕ → List LoggedTransaction
transactions_at zero bytes = []
transactions_at (suc n) bytes = transaction_at bytes ∷ transactions_at n (drop 21 bytes)

unfoldable pub pages_at : ℕ → List ℕ → List LoggedPage
pages_at zero bytes = []
pages_at (suc n) bytes = page_row_at bytes ∷ pages_at n (drop 12 bytes)

-- the body of an end_chkpt
unfoldable pub read_checkpoint : List ℕ → Result Body Fault
read_checkpoint body =
    let n = half_at 0 body in
    let m = half_at 2 body in
    if not (nat_le n 256 && nat_le m 4096 && (length body == 4 + 21 * n + 12 * m)) then Err BadLength
    else Ok (EndCheckpoint (transactions_at n (drop 4 body)) (pages_at m (drop (21 * n) (drop 4 body))))

-- the body of a record of a type that there is
unfoldable pub read_body : ℕ → ℕ → List ℕ → Result Body Fault
read_body pages kind body =
    if kind == 1 then read_update pages body
    else if kind == 2 then read_compensation pages body
    else if kind == 3 then Ok Commit
    else if kind == 4 then Ok Rollback
    else if kind == 5 then Ok End
    else if kind == 6 then Ok BeginCheckpoint
    else if kind == 7 then read_checkpoint body
    else Ok Prepare

-- the fields of the head
abbrev pub size_at : List ℕ → ℕ
size_at bytes = word_at 0 bytes

abbrev pub type_at : List ℕ → ℕ
type_at bytes = slice_index bytes 4

abbrev pub is_reserved_zero : List ℕ → Bool
is_reserved_zero bytes = (slice_index bytes 5 == 0) && (slice_index bytes 6 == 0) && (slice_index bytes 7 == 0)

-- the record with the head of these bytes and this body
abbrev pub headed : ℕ → List ℕ → Body → Record
headed at bytes body = record { lsn = record { 0 = at }; prev = record { 0 = long_at 16 bytes }; trans = record { 0 = word_at 24 bytes }; body = body }

-- a record of so many bytes with the head of these, where its body could be read
abbrev pub with_head : ℕ → List ℕ → ℕ → Result Body Fault → Result (Option (Record × ℕ)) Fault
with_head at bytes size read = read >>= λ body. Ok (Some (headed at bytes body, size))

-- The record at the front of the bytes, and its length; None where more bytes are needed.
unfoldable pub read_record : ℕ → ℕ → List ℕ → Result (Option (Record × ℕ)) Fault
read_record pages at bytes =
    if nat_lt (length bytes) 28 then Ok None
    else if not (is_size (type_at bytes) (size_at bytes)) then Err BadLength
    else if not (is_type (type_at bytes)) then Err BadType
    else if not (is_reserved_zero bytes) then Err BadReserved
    else if not (long_at 8 bytes == at) then Err WrongLsn
    else if nat_lt (length bytes) (size_at bytes) then Ok None
    else with_head at bytes (size_at bytes) (read_body pages (type_at bytes) (drop 28 (take (size_at bytes) bytes)))

-- Reading gives an end_chkpt, the one record of which a part lies in memory of its own.
abbrev pub HasRows : Body → Type 0
HasRows (Update key before after) = ⊥
HasRows (Compensation undo_next key after) = ⊥
HasRows Commit = ⊥
HasRows Rollback = ⊥
HasRows End = ⊥
HasRows BeginCheckpoint = ⊥
HasRows (EndCheckpoint transactions pages) = Unit {0}
HasRows Prepare = ⊥

abbrev pub GivesRows : Result Body Fault → Type 0
GivesRows (Ok body) = HasRows body
GivesRows (Err fault) = ⊥

abbrev pub TakesMemory : Result (Option (Record × ℕ)) Fault → Type 0
TakesMemory (Ok None) = ⊥
TakesMemory (Ok (Some found)) = HasRows found.0.body
TakesMemory (Err fault) = ⊥
