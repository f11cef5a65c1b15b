-- Laws of a checkpoint's bytes.
use Rattle.std.proofs.Common.{◌≡◌, ℕ, ◌+◌, ◌*◌, ◌≤◌, List, ◌++◌, length, take, drop, replicate, refl, sym, ap, ap₂, ◌∙◌, arith, IfOk, append_assoc}
use Rattle.std.proofs.lemmas.List.{take-append-drop, length-append, length-drop, drop_all, take_all, append-nil}
use Rattle.std.specs.Int.{w16, w32, w64, to_be_bytes}
use Rattle.std.specs.List.{flat_map}
use Rattle.byteorder.specs.Endian.{big_number}
use Rattle.byteorder.specs.Numbers.{big_number-reads_back}
use Rattle.als_record.specs.declared.rows.LoggedTransaction.{LoggedTransaction}
use Rattle.als_record.specs.declared.rows.LoggedPage.{LoggedPage}
use Rattle.als_record.specs.declared.record.Body.{Body}
use Rattle.als_record.specs.declared.record.Body.TheVariants.{Update, Compensation, Commit, Rollback, End, BeginCheckpoint, EndCheckpoint, Prepare}
use Rattle.als_record.specs.declared.record.Record.{Record}
use Rattle.als_record.proofs.RecordLaws.{length-body_bytes}
use Rattle.als_record.specs.Spelling.{head, spelling, record_len, body_len, body_bytes, transaction_row, page_row, type_byte, IsBody, IsRecord}
use Rattle.als_ckpt_codec.specs.declared.numbers.Numbers.{Numbers}
use Rattle.als_ckpt_codec.specs.declared.checkpoint.Checkpoint.{Checkpoint}
use Rattle.als_ckpt_codec.specs.Checkpoint.{numbers_bytes, checkpoint_bytes, AreNumbers, IsCheckpoint, BeginsWith, BeginsWithTables, tables_of}

-- ---- the numbers

module _ (n : Numbers) (bytes rest : List ℕ) (fits : AreNumbers n) (is : bytes ≡ numbers_bytes n ++ rest) where
  pub position-numbers_bytes : big_number 8 (drop 0 bytes) ≡ n.position.0
  unfolding numbers_bytes
  position-numbers_bytes = ap (λ (xs : List ℕ). big_number 8 (drop 0 xs)) is
      ∙ big_number-reads_back 8 n.position.0 (to_be_bytes w32 n.greatest.0 ++ (to_be_bytes w64 n.open_checkpoint.0 ++ (to_be_bytes w64 n.commits ++ (to_be_bytes w64 n.last_commit.0 ++ rest)))) fits.position

  pub greatest-numbers_bytes : big_number 4 (drop 8 bytes) ≡ n.greatest.0
  unfolding numbers_bytes
  greatest-numbers_bytes = ap (λ (xs : List ℕ). big_number 4 (drop 8 xs)) is
      ∙ big_number-reads_back 4 n.greatest.0 (to_be_bytes w64 n.open_checkpoint.0 ++ (to_be_bytes w64 n.commits ++ (to_be_bytes w64 n.last_commit.0 ++ rest))) fits.greatest

  pub open_checkpoint-numbers_bytes : big_number 8 (drop 12 bytes) ≡ n.open_checkpoint.0
  unfolding numbers_bytes
  open_checkpoint-numbers_bytes = ap (λ (xs : List ℕ). big_number 8 (drop 12 xs)) is
      ∙ big_number-reads_back 8 n.open_checkpoint.0 (to_be_bytes w64 n.commits ++ (to_be_bytes w64 n.last_commit.0 ++ rest)) fits.open_checkpoint

  pub commits-numbers_bytes : big_number 8 (drop 20 bytes) ≡ n.commits
  unfolding numbers_bytes
  commits-numbers_bytes = ap (λ (xs : List ℕ). big_number 8 (drop 20 xs)) is
      ∙ big_number-reads_back 8 n.commits (to_be_bytes w64 n.last_commit.0 ++ rest) fits.commits

  pub last_commit-numbers_bytes : big_number 8 (drop 28 bytes) ≡ n.last_commit.0
  unfolding numbers_bytes
  last_commit-numbers_bytes = ap (λ (xs : List ℕ). big_number 8 (drop 28 xs)) is ∙ big_number-reads_back 8 n.last_commit.0 rest fits.last_commit

  pub front-numbers_bytes : take 36 bytes ≡ numbers_bytes n
  unfolding numbers_bytes
  front-numbers_bytes = ap (λ (xs : List ℕ). take 36 xs) is

-- the numbers by their fields
pub numbers_of_fields : (n : Numbers) (position greatest open_checkpoint commits last_commit : ℕ)
    → position ≡ n.position.0 → greatest ≡ n.greatest.0 → open_checkpoint ≡ n.open_checkpoint.0 → commits ≡ n.commits → last_commit ≡ n.last_commit.0
    → ◌≡◌ {A = Numbers} (record { position = record { 0 = position }; greatest = record { 0 = greatest }; open_checkpoint = record { 0 = open_checkpoint }; commits = commits; last_commit = record { 0 = last_commit } }) n
numbers_of_fields n position greatest open_checkpoint commits last_commit e1 e2 e3 e4 e5 = rw (e1, e2, e3, e4, e5) refl

-- ---- the tables

-- the end_chkpt that spells two tables
abbrev pub end_chkpt : List LoggedTransaction → List LoggedPage → Record
end_chkpt ts ps = record { lsn = record { 0 = 0 }; prev = record { 0 = 0 }; trans = record { 0 = 0 }; body = EndCheckpoint ts ps }

pub end_chkpt-fits : (pages : ℕ) (ts : List LoggedTransaction) (ps : List LoggedPage) → IsBody pages (EndCheckpoint ts ps) → IsRecord pages (end_chkpt ts ps)
end_chkpt-fits pages ts ps fits = record { lsn = omega arith; prev = omega arith; trans = omega arith; body = fits }

-- the two counts, read where the tables stand
module _ (pages : ℕ) (bytes : List ℕ) (ts : List LoggedTransaction) (ps : List LoggedPage) (is : BeginsWithTables pages bytes ts ps) where
  pub transactions-count : big_number 2 bytes ≡ length ts
  unfolding body_bytes
  transactions-count = ap (big_number 2) is.spelled
      ∙ big_number-reads_back 2 (length ts) (to_be_bytes w16 (length ps) ++ ((flat_map transaction_row ts ++ flat_map page_row ps) ++ is.rest)) (omega (arith, is.fits.0))

  pub pages-count : big_number 2 (drop 2 bytes) ≡ length ps
  unfolding body_bytes
  pages-count = ap (λ (xs : List ℕ). big_number 2 (drop 2 xs)) is.spelled
      ∙ big_number-reads_back 2 (length ps) ((flat_map transaction_row ts ++ flat_map page_row ps) ++ is.rest) (omega (arith, is.fits.1))

  -- with the head of an end_chkpt in front they are one
  pub end_chkpt-spelled : (size : ℕ) → size ≡ 32 + 21 * big_number 2 bytes + 12 * big_number 2 (drop 2 bytes)
      → head size 7 0 0 0 ++ bytes ≡ spelling (end_chkpt ts ps) ++ is.rest
  unfolding spelling record_len
  end_chkpt-spelled size e =
      let len : size ≡ 28 + (4 + 21 * length ts + 12 * length ps) = omega (arith, e, transactions-count, pages-count) in
      ap (λ (k : ℕ). head k 7 0 0 0 ++ bytes) len
      ∙ ap (λ (xs : List ℕ). head (28 + (4 + 21 * length ts + 12 * length ps)) 7 0 0 0 ++ xs) is.spelled
      ∙ sym (append_assoc (head (28 + (4 + 21 * length ts + 12 * length ps)) 7 0 0 0) (body_bytes (EndCheckpoint ts ps)) is.rest)

-- what stands behind the head of a record
behind_head : (s kind l p t s₂ : ℕ) (xs ys : List ℕ) (kind₂ l₂ p₂ t₂ : ℕ) → head s kind l p t ++ xs ≡ head s₂ kind₂ l₂ p₂ t₂ ++ ys → xs ≡ ys
unfolding head
behind_head s kind l p t s₂ xs ys kind₂ l₂ p₂ t₂ e = ap (drop 28) e

tables-of_body : (pages : ℕ) (bytes rest : List ℕ) (body : Body) → bytes ≡ body_bytes body ++ rest → IsBody pages body
    → IfOk (tables_of body) (λ t. BeginsWithTables pages bytes t.0 t.1)
tables-of_body pages bytes rest (Update key before after) is fits = tt
tables-of_body pages bytes rest (Compensation undo_next key after) is fits = tt
tables-of_body pages bytes rest Commit is fits = tt
tables-of_body pages bytes rest Rollback is fits = tt
tables-of_body pages bytes rest End is fits = tt
tables-of_body pages bytes rest BeginCheckpoint is fits = tt
tables-of_body pages bytes rest (EndCheckpoint ts ps) is fits = record { rest = rest; spelled = is; fits = fits }
tables-of_body pages bytes rest Prepare is fits = tt

-- the tables of the record that was read are those that stand there
pub tables-found : (pages size len : ℕ) (bytes logged : List ℕ) (r : Record) → logged ≡ head size 7 0 0 0 ++ bytes → take len logged ≡ spelling r → IsRecord pages r
    → IfOk (tables_of r.body) (λ t. BeginsWithTables pages bytes t.0 t.1)
unfolding spelling
tables-found pages size len bytes logged r is read fits =
    let rest = drop len logged in
    let front = head (record_len r) (type_byte r.body) r.lsn.0 r.prev.0 r.trans.0 in
    let whole : head size 7 0 0 0 ++ bytes ≡ front ++ (body_bytes r.body ++ rest) =
    sym is ∙ sym (take-append-drop len logged) ∙ ap (λ (xs : List ℕ). xs ++ rest) read ∙ append_assoc front (body_bytes r.body) rest in
    tables-of_body pages bytes rest r.body (behind_head size 7 0 0 0 (record_len r) bytes (body_bytes r.body ++ rest) (type_byte r.body) r.lsn.0 r.prev.0 r.trans.0 whole) fits.body

-- ---- the whole

pub without_front : (bytes new : List ℕ) (size : ℕ) → new ≡ (replicate 8 0 ++ head size 7 0 0 0) ++ bytes → drop 8 new ≡ head size 7 0 0 0 ++ bytes
without_front bytes new size is = ap (drop 8) is

-- numbers and tables make a checkpoint
pub BeginsWith-parts : (pages : ℕ) (bytes : List ℕ) (n : Numbers) (c : Checkpoint) → c.numbers ≡ n → take 36 bytes ≡ numbers_bytes n
    → BeginsWithTables pages (drop 36 bytes) c.transactions c.pages → BeginsWith bytes c
unfolding checkpoint_bytes
BeginsWith-parts pages bytes n c same front tables = record {
  rest = tables.rest;
  spelled = sym (take-append-drop 36 bytes)
      ∙ ap₂ (λ (xs ys : List ℕ). xs ++ ys) (front ∙ ap numbers_bytes (sym same)) tables.spelled
      ∙ sym (append_assoc (numbers_bytes c.numbers) (body_bytes (EndCheckpoint c.transactions c.pages)) tables.rest);
}

-- a checkpoint begins with its numbers, behind which its tables stand
module _ (bytes : List ℕ) (c : Checkpoint) (is : BeginsWith bytes c) where
  pub BeginsWith-numbers : bytes ≡ numbers_bytes c.numbers ++ (body_bytes (EndCheckpoint c.transactions c.pages) ++ is.rest)
  unfolding checkpoint_bytes
  BeginsWith-numbers = is.spelled ∙ append_assoc (numbers_bytes c.numbers) (body_bytes (EndCheckpoint c.transactions c.pages)) is.rest

  behind_numbers : (n : Numbers) (xs : List ℕ) → drop 36 (numbers_bytes n ++ xs) ≡ xs
  unfolding numbers_bytes
  behind_numbers n xs = refl

  pub BeginsWith-tables : (pages : ℕ) → IsBody pages (EndCheckpoint c.transactions c.pages) → BeginsWithTables pages (drop 36 bytes) c.transactions c.pages
  BeginsWith-tables pages fits = record {
    rest = is.rest;
    spelled = ap (drop 36) BeginsWith-numbers ∙ behind_numbers c.numbers (body_bytes (EndCheckpoint c.transactions c.pages) ++ is.rest);
    fits = fits;
  }

-- the end_chkpt whose head made room for the numbers
checkpoint_bytes-encoded : (c : Checkpoint) (old new : List ℕ) → old ≡ replicate 8 0 ++ spelling (end_chkpt c.transactions c.pages) → new ≡ numbers_bytes c.numbers ++ drop 36 old
    → new ≡ checkpoint_bytes c
unfolding checkpoint_bytes spelling head
checkpoint_bytes-encoded c old new was is = is ∙ ap (λ (xs : List ℕ). numbers_bytes c.numbers ++ drop 36 xs) was

pub encoded-long : (r : Record) (old : List ℕ) → old ≡ replicate 8 0 ++ spelling r → 36 ≤ length old
unfolding spelling head
encoded-long r old was = let e : length old ≡ length (replicate 8 0 ++ spelling r) = ap length was in omega (arith, e)

pub encoded-whole : (c : Checkpoint) (items new : List ℕ) (len : ℕ) → items ≡ replicate 8 0 ++ spelling (end_chkpt c.transactions c.pages) → new ≡ numbers_bytes c.numbers ++ drop 36 items
    → len ≡ length items → take len (new ++ drop (length new) items) ≡ checkpoint_bytes c
unfolding numbers_bytes spelling head
encoded-whole c items new len was is sized =
    let e : length items ≡ length (replicate 8 0 ++ spelling (end_chkpt c.transactions c.pages)) = ap length was in
    let f : length new ≡ length (numbers_bytes c.numbers ++ drop 36 items) = ap length is in
    let same : length new ≡ length items = omega (arith, e, f, length-drop 36 items) in
    ap (λ (xs : List ℕ). take len (new ++ xs)) (drop_all (length new) items (omega (arith, same)))
    ∙ ap (take len) (append-nil new) ∙ take_all len new (omega (arith, same, sized)) ∙ checkpoint_bytes-encoded c items new was is

-- a checkpoint by its parts
pub checkpoint_of_parts : (x : Checkpoint) (n : Numbers) (ts : List LoggedTransaction) (ps : List LoggedPage) → n ≡ x.numbers
    → ◌≡◌ {A = List LoggedTransaction × List LoggedPage} (ts, ps) (x.transactions, x.pages)
    → ◌≡◌ {A = Checkpoint} (record { numbers = n; transactions = ts; pages = ps }) x
checkpoint_of_parts x n ts ps e1 e2 =
    let e3 : ts ≡ x.transactions = ap (λ (t : List LoggedTransaction × List LoggedPage). t.0) e2 in
    let e4 : ps ≡ x.pages = ap (λ (t : List LoggedTransaction × List LoggedPage). t.1) e2 in
    rw (e1, e3, e4) refl

length-numbers_bytes : (n : Numbers) → length (numbers_bytes n) ≡ 36
unfolding numbers_bytes
length-numbers_bytes n = refl

-- a checkpoint is 8 bytes longer than the end_chkpt of its tables
pub checkpoint_bytes-short : (c : Checkpoint) → record_len (end_chkpt c.transactions c.pages) ≤ 54560 → length (checkpoint_bytes c) ≤ 54568
unfolding checkpoint_bytes record_len
checkpoint_bytes-short c le =
    let body : length (body_bytes (EndCheckpoint c.transactions c.pages)) ≡ body_len (EndCheckpoint c.transactions c.pages) = length-body_bytes (EndCheckpoint c.transactions c.pages) in
    omega (arith, le, body, length-numbers_bytes c.numbers, length-append (numbers_bytes c.numbers) (body_bytes (EndCheckpoint c.transactions c.pages)))

pub length-checkpoint_bytes : (c : Checkpoint) → length (checkpoint_bytes c) ≡ 40 + 21 * length c.transactions + 12 * length c.pages
unfolding checkpoint_bytes
length-checkpoint_bytes c =
    let body : length (body_bytes (EndCheckpoint c.transactions c.pages)) ≡ body_len (EndCheckpoint c.transactions c.pages) = length-body_bytes (EndCheckpoint c.transactions c.pages) in
    omega (arith, body, length-numbers_bytes c.numbers, length-append (numbers_bytes c.numbers) (body_bytes (EndCheckpoint c.transactions c.pages)))

-- the first bytes of a checkpoint say how many rows it has
module _ (pages position : ℕ) (c : Checkpoint) (fits : IsCheckpoint pages position c) (front rest : List ℕ) (is : front ≡ take 40 (checkpoint_bytes c) ++ rest) where
  pub transactions-front : big_number 2 (drop 36 front) ≡ length c.transactions
  unfolding checkpoint_bytes numbers_bytes body_bytes
  transactions-front = ap (λ (xs : List ℕ). big_number 2 (drop 36 xs)) is
      ∙ big_number-reads_back 2 (length c.transactions) (to_be_bytes w16 (length c.pages) ++ rest) (omega (arith, fits.tables.0))

  pub pages-front : big_number 2 (drop 38 front) ≡ length c.pages
  unfolding checkpoint_bytes numbers_bytes body_bytes
  pages-front = ap (λ (xs : List ℕ). big_number 2 (drop 38 xs)) is
      ∙ big_number-reads_back 2 (length c.pages) rest (omega (arith, fits.tables.1))
