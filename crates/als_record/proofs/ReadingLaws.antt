-- A record that is found is spelled so, and what is spelled so is found; more bytes behind it change nothing.
use Rattle.std.proofs.Common.{◌≡◌, ℕ, ◌+◌, ◌^◌, ◌<◌, ◌≤◌, ◌⊎◌, Bool, true, false, eqb, ltb, List, [], ◌++◌, length, get_or, take, drop, Option, Some, None, Result, Ok, Err, refl, sym, ap, subst, ◌∙◌, append_assoc, arith, inl, inr}
use Rattle.std.specs.Prelude.{not, ◌&&◌, if◌then◌else◌, IfOk, IfErr, IfSome}
use Rattle.std.specs.Int.{w32, w64}
use Rattle.std.proofs.lemmas.Bool.{ltb-false, le-ltb, eqb-true, eq-eqb}
use Rattle.std.proofs.lemmas.List.{take_at, drop_at, take-append-drop, take-take, take-append-le, length-append, length-take, length-drop, get_or_append_left, append_cancel_left, append-nil}
use Rattle.als_record.specs.declared.record.Body.{Body}
use Rattle.als_record.specs.declared.record.Body.TheVariants.{Update, Compensation, Commit, Rollback, End, BeginCheckpoint, EndCheckpoint, Prepare}
use Rattle.als_record.specs.declared.record.Record.{Record}
use Rattle.als_record.specs.declared.record_view.RecordView.{RecordView}
use Rattle.als_record.specs.declared.fault.Fault.{Fault}
use Rattle.als_record.specs.declared.fault.Fault.TheVariants.{Memory, BadLength, BadType, BadReserved, WrongLsn}
use Rattle.als_record.specs.Spelling.{head, spelling, record_len, body_bytes, body_len, type_byte, IsRecord}
use Rattle.als_record.specs.Reading.{Gives, HasRows, TakesMemory, ◌>>=◌, word_at, long_at, size_at, type_at, is_size, is_type, is_reserved_zero, read_body, read_record}
use Rattle.als_record.specs.Shown.{shown, shown_found}
use Rattle.als_record.proofs.FieldLaws.{IsBytes, IsBytes-drop, IsBytes-take, wide32, wide64, number_below, number_more}
use Rattle.als_record.proofs.RecordLaws.{body_found, body_again, size_range, type_byte_is, body_size, length-head, length-spelling, record_len-high, head_found, head_again, IsHeadOf}

abbrev Found : Type 0
Found = Option (Record × ℕ)

abbrev found : Found → Result Found Fault
found o = Ok o

-- the tests of reading in order, and what stands behind them
abbrev six : Bool → Bool → Bool → Bool → Bool → Bool → Result Found Fault → Result Found Fault
six short sized typed zeros placed cut read =
    if short then Ok None
    else if not sized then Err BadLength
    else if not typed then Err BadType
    else if not zeros then Err BadReserved
    else if not placed then Err WrongLsn
    else if cut then Ok None
    else read

record Passed (short sized typed zeros placed cut : Bool) (read : Result Found Fault) (y : Record × ℕ) : Type 0 where
  is_long : short ≡ false
  is_sized : sized ≡ true
  is_typed : typed ≡ true
  is_zero : zeros ≡ true
  is_placed : placed ≡ true
  is_whole : cut ≡ false
  gives : read ≡ Ok (Some y)

six_passed : (short sized typed zeros placed cut : Bool) (read : Result Found Fault) (y : Record × ℕ) → six short sized typed zeros placed cut read ≡ Ok (Some y) → Passed short sized typed zeros placed cut read y
six_passed true sized typed zeros placed cut read y e = absurd cc
six_passed false false typed zeros placed cut read y e = absurd cc
six_passed false true false zeros placed cut read y e = absurd cc
six_passed false true true false placed cut read y e = absurd cc
six_passed false true true true false cut read y e = absurd cc
six_passed false true true true true true read y e = absurd cc
six_passed false true true true true false read y e = record { is_long = refl; is_sized = refl; is_typed = refl; is_zero = refl; is_placed = refl; is_whole = refl; gives = e }

six_pass : (short sized typed zeros placed cut : Bool) (read : Result Found Fault) → short ≡ false → sized ≡ true → typed ≡ true → zeros ≡ true → placed ≡ true → cut ≡ false → six short sized typed zeros placed cut read ≡ read
six_pass short sized typed zeros placed cut read a b c d e f = rw (a, b, c, d, e, f) refl

-- where a record is cut short, it is a fault of its head, or more bytes are needed
six_cut : (sized typed zeros placed cut : Bool) (read other : Result Found Fault) → (six false sized typed zeros placed true read ≡ Ok None) ⊎ (six false sized typed zeros placed cut other ≡ six false sized typed zeros placed true read)
six_cut false typed zeros placed cut read other = inr refl
six_cut true false zeros placed cut read other = inr refl
six_cut true true false placed cut read other = inr refl
six_cut true true true false cut read other = inr refl
six_cut true true true true cut read other = inl refl

-- a record of these fields, and its length
abbrev made_of : ℕ → ℕ → ℕ → ℕ → Body → Record × ℕ
made_of at size prev trans body = (record { lsn = record { 0 = at }; prev = record { 0 = prev }; trans = record { 0 = trans }; body = body }, size)

abbrev body_read : ℕ → ℕ → ℕ → ℕ → ℕ → ℕ → List ℕ → Result Found Fault
body_read pages at size kind prev trans bytes = read_body pages kind bytes >>= λ body. Ok (Some (made_of at size prev trans body))

-- reading from the fields of a record
abbrev read_from : ℕ → ℕ → ℕ → ℕ → ℕ → Bool → ℕ → ℕ → ℕ → List ℕ → Result Found Fault
read_from pages at len size kind zeros lsn prev trans bytes = six (ltb len 28) (is_size kind size) (is_type kind) zeros (eqb lsn at) (ltb len size) (body_read pages at size kind prev trans bytes)

reads_from : (pages at : ℕ) (bytes : List ℕ) → read_record pages at bytes ≡ read_from pages at (length bytes) (size_at bytes) (type_at bytes) (is_reserved_zero bytes) (long_at 8 bytes) (long_at 16 bytes) (word_at 24 bytes) (drop 28 (take (size_at bytes) bytes))
unfolding read_record
reads_from pages at bytes = refl

bind_some : (read : Result Body Fault) (f : Body → Record × ℕ) (y : Record × ℕ) → (read >>= λ body. found (Some (f body))) ≡ Ok (Some y) → (body : Body) × (read ≡ Ok body) × (f body ≡ y)
bind_some (Ok body) f y e = (body, refl, cc)
bind_some (Err fault) f y e = absurd cc

-- ---- what is found

-- what was found at the front of the bytes
pub record IsFound (pages at : ℕ) (bytes : List ℕ) (r : Record) (n : ℕ) : Type 0 where
  pub spelled : take n bytes ≡ spelling r
  pub len : n ≡ record_len r
  pub within : n ≤ length bytes
  pub placed : r.lsn.0 ≡ at
  pub fits : IsRecord pages r

made_is : (pages at : ℕ) (bytes : List ℕ) (body : Body) → IsBytes bytes → 28 ≤ length bytes → is_size (type_at bytes) (size_at bytes) ≡ true → is_type (type_at bytes) ≡ true → is_reserved_zero bytes ≡ true → long_at 8 bytes ≡ at → size_at bytes ≤ length bytes
    → read_body pages (type_at bytes) (drop 28 (take (size_at bytes) bytes)) ≡ Ok body
    → let made = made_of at (size_at bytes) (long_at 16 bytes) (word_at 24 bytes) body in IsFound pages at bytes made.0 made.1
unfolding spelling record_len
made_is pages at bytes body fits long sized typed zeros placed whole e =
    let size = size_at bytes in
    let kind = type_at bytes in
    let range = size_range kind size typed sized in
    let front = take size bytes in
    let rest = drop 28 front in
    let front_len : length front ≡ size = omega (arith, length-take size bytes) in
    let rest_len : 28 + length rest ≡ size = omega (arith, length-drop 28 front, range.0) in
    let rest_fits = IsBytes-drop 28 front (IsBytes-take size bytes fits) in
    let b = body_found pages kind rest body rest_fits typed (ap (is_size kind) rest_len ∙ sized) e in
    let heading = head size kind (long_at 8 bytes) (long_at 16 bytes) (word_at 24 bytes) in
    let head_is : take 28 bytes ≡ heading = ap (take 28) (head_found bytes fits long zeros) ∙ take_at heading (drop 28 bytes) 28 (length-head size kind (long_at 8 bytes) (long_at 16 bytes) (word_at 24 bytes)) in
    let head_in : take 28 front ≡ heading = take-take 28 size bytes range.0 ∙ head_is in
    let len : size ≡ 28 + body_len body = sym rest_len ∙ ap (λ (k : ℕ). 28 + k) b.len in
    let joined : front ≡ heading ++ body_bytes body = sym (take-append-drop 28 front) ∙ ap (λ (xs : List ℕ). xs ++ rest) head_in ∙ ap (λ (xs : List ℕ). heading ++ xs) b.spelled in
    let named : heading ≡ head (28 + body_len body) (type_byte body) at (long_at 16 bytes) (word_at 24 bytes) =
    ap (λ (k : ℕ). head k kind (long_at 8 bytes) (long_at 16 bytes) (word_at 24 bytes)) len
    ∙ ap (λ (k : ℕ). head (28 + body_len body) k (long_at 8 bytes) (long_at 16 bytes) (word_at 24 bytes)) (sym b.kind_is)
    ∙ ap (λ (k : ℕ). head (28 + body_len body) (type_byte body) k (long_at 16 bytes) (word_at 24 bytes)) placed in
    record {
      spelled = joined ∙ ap (λ (xs : List ℕ). xs ++ body_bytes body) named;
      len = len;
      within = whole;
      placed = refl;
      fits = record {
        lsn = subst (λ (k : ℕ). k < 2 ^ 64) placed (number_below w64 (2 ^ 64) wide64 8 bytes fits);
        prev = number_below w64 (2 ^ 64) wide64 16 bytes fits;
        trans = number_below w32 (2 ^ 32) wide32 24 bytes fits;
        body = b.fits;
      };
    }

passed : (pages at : ℕ) (bytes : List ℕ) (y : Record × ℕ) → read_record pages at bytes ≡ Ok (Some y)
    → Passed (ltb (length bytes) 28) (is_size (type_at bytes) (size_at bytes)) (is_type (type_at bytes)) (is_reserved_zero bytes) (eqb (long_at 8 bytes) at) (ltb (length bytes) (size_at bytes))
    (body_read pages at (size_at bytes) (type_at bytes) (long_at 16 bytes) (word_at 24 bytes) (drop 28 (take (size_at bytes) bytes))) y
passed pages at bytes y e =
    six_passed (ltb (length bytes) 28) (is_size (type_at bytes) (size_at bytes)) (is_type (type_at bytes)) (is_reserved_zero bytes) (eqb (long_at 8 bytes) at) (ltb (length bytes) (size_at bytes))
    (body_read pages at (size_at bytes) (type_at bytes) (long_at 16 bytes) (word_at 24 bytes) (drop 28 (take (size_at bytes) bytes))) y (sym (reads_from pages at bytes) ∙ e)

-- a record that is found stands in the bytes, and fits
pub record_found : (pages at : ℕ) (bytes : List ℕ) (r : Record) (n : ℕ) → IsBytes bytes → read_record pages at bytes ≡ Ok (Some (r, n)) → IsFound pages at bytes r n
record_found pages at bytes r n fits e =
    let p = passed pages at bytes (r, n) e in
    let b = bind_some (read_body pages (type_at bytes) (drop 28 (take (size_at bytes) bytes))) (made_of at (size_at bytes) (long_at 16 bytes) (word_at 24 bytes)) (r, n) p.gives in
    subst (λ (y : Record × ℕ). IsFound pages at bytes y.0 y.1) b.2
    (made_is pages at bytes b.0 fits (ltb-false (length bytes) 28 p.is_long) p.is_sized p.is_typed p.is_zero (eqb-true (long_at 8 bytes) at p.is_placed) (ltb-false (length bytes) (size_at bytes) p.is_whole) b.1)

-- a record that is found, and what stands behind it, are the bytes
pub found_splits : (pages at : ℕ) (bytes : List ℕ) (r : Record) (n : ℕ) → IsBytes bytes → read_record pages at bytes ≡ Ok (Some (r, n)) → bytes ≡ spelling r ++ drop n bytes
found_splits pages at bytes r n fits e = sym (take-append-drop n bytes) ∙ ap (λ (xs : List ℕ). xs ++ drop n bytes) (record_found pages at bytes r n fits e).spelled

-- a record that is found ends within the bytes, whatever they are
pub found_within : (pages at : ℕ) (bytes : List ℕ) (r : Record) (n : ℕ) → read_record pages at bytes ≡ Ok (Some (r, n)) → n ≤ length bytes
found_within pages at bytes r n e =
    let p = passed pages at bytes (r, n) e in
    let b = bind_some (read_body pages (type_at bytes) (drop 28 (take (size_at bytes) bytes))) (made_of at (size_at bytes) (long_at 16 bytes) (word_at 24 bytes)) (r, n) p.gives in
    subst (λ (k : ℕ). k ≤ length bytes) (ap (λ (y : Record × ℕ). y.1) b.2) (ltb-false (length bytes) (size_at bytes) p.is_whole)

-- ---- what is spelled

sized : (pages : ℕ) (r : Record) → IsRecord pages r → is_size (type_byte r.body) (record_len r) ≡ true
unfolding record_len
sized pages r is = body_size pages r.body is.body

-- what is spelled so is found
pub record_again : (pages : ℕ) (r : Record) (rest : List ℕ) → IsRecord pages r → read_record pages r.lsn.0 (spelling r ++ rest) ≡ Ok (Some (r, record_len r))
unfolding spelling
record_again pages r rest is =
    let kind = type_byte r.body in
    let size = record_len r in
    let body = body_bytes r.body in
    let heading = head size kind r.lsn.0 r.prev.0 r.trans.0 in
    let bytes = spelling r ++ rest in
    let high = record_len-high pages r is in
    let regrouped : bytes ≡ heading ++ (body ++ rest) = append_assoc heading body rest in
    let h = subst (λ (xs : List ℕ). IsHeadOf size kind r.lsn.0 r.prev.0 r.trans.0 xs) (sym regrouped) (head_again size kind r.lsn.0 r.prev.0 r.trans.0 (body ++ rest) (omega arith) is.lsn is.prev is.trans) in
    let len_of = length-head size kind r.lsn.0 r.prev.0 r.trans.0 in
    let size_is = length-spelling r in
    let long : 28 ≤ length bytes = omega (arith, length-append (spelling r) rest, length-append heading body) in
    let whole : size ≤ length bytes = omega (arith, length-append (spelling r) rest) in
    let front : drop 28 (take size bytes) ≡ body = ap (drop 28) (take_at (spelling r) rest size size_is) ∙ drop_at heading body 28 len_of in
    let at = r.lsn.0 in
    reads_from pages at bytes
    ∙ ap (λ (k : ℕ). read_from pages at (length bytes) k (type_at bytes) (is_reserved_zero bytes) (long_at 8 bytes) (long_at 16 bytes) (word_at 24 bytes) (drop 28 (take k bytes))) h.size_is
    ∙ ap (λ (k : ℕ). read_from pages at (length bytes) size k (is_reserved_zero bytes) (long_at 8 bytes) (long_at 16 bytes) (word_at 24 bytes) (drop 28 (take size bytes))) h.kind_is
    ∙ ap (λ (k : ℕ). read_from pages at (length bytes) size kind (is_reserved_zero bytes) (long_at 8 bytes) k (word_at 24 bytes) (drop 28 (take size bytes))) h.prev_is
    ∙ ap (λ (k : ℕ). read_from pages at (length bytes) size kind (is_reserved_zero bytes) (long_at 8 bytes) r.prev.0 k (drop 28 (take size bytes))) h.trans_is
    ∙ ap (λ (xs : List ℕ). read_from pages at (length bytes) size kind (is_reserved_zero bytes) (long_at 8 bytes) r.prev.0 r.trans.0 xs) front
    ∙ six_pass (ltb (length bytes) 28) (is_size kind size) (is_type kind) (is_reserved_zero bytes) (eqb (long_at 8 bytes) at) (ltb (length bytes) size) (body_read pages at size kind r.prev.0 r.trans.0 body)
    (le-ltb (length bytes) 28 long) (sized pages r is) (type_byte_is r.body) h.zeros (eq-eqb (long_at 8 bytes) at h.lsn_is) (le-ltb (length bytes) size whole)
    ∙ ap (λ (b : Result Body Fault). b >>= λ v. found (Some (made_of at size r.prev.0 r.trans.0 v))) (body_again pages r.body is.body)

-- ---- what decode returns

-- what is found is spelled so
pub given_found : (pages at : ℕ) (bytes : List ℕ) (result : Result Found Fault) → IsBytes bytes → Gives (λ (o : Found). o) result (read_record pages at bytes)
    → IfOk result (λ o. IfSome o (λ x. (take x.1 bytes ≡ spelling x.0) × (x.1 ≡ record_len x.0) × (x.1 ≤ length bytes) × (x.0.lsn.0 ≡ at) × IsRecord pages x.0))
given_found pages at bytes (Err fault) fits given = tt
given_found pages at bytes (Ok None) fits given = tt
given_found pages at bytes (Ok (Some x)) fits given =
    let f = record_found pages at bytes x.0 x.1 fits given in
    (f.spelled, f.len, f.within, f.placed, f.fits)

-- the same of what a view shows
pub given_shown : (pages at : ℕ) (bytes : List ℕ) (result : Result (Option (RecordView × ℕ)) Fault) → IsBytes bytes → Gives shown_found result (read_record pages at bytes)
    → IfOk result (λ o. IfSome o (λ x. (take x.1 bytes ≡ spelling (shown x.0)) × (x.1 ≡ record_len (shown x.0)) × (x.1 ≤ length bytes) × (x.0.lsn.0 ≡ at) × IsRecord pages (shown x.0)))
given_shown pages at bytes (Err fault) fits given = tt
given_shown pages at bytes (Ok None) fits given = tt
given_shown pages at bytes (Ok (Some x)) fits given =
    let f = record_found pages at bytes (shown x.0) x.1 fits given in
    (f.spelled, f.len, f.within, f.placed, f.fits)

-- what is spelled so is found, whatever shows it
pub given_only : {X : Type 0} (show : X → Found) (pages at : ℕ) (bytes : List ℕ) (result : Result X Fault) → Gives show result (read_record pages at bytes)
    → (r : Record) (rest : List ℕ) → IsRecord pages r → r.lsn.0 ≡ at → bytes ≡ spelling r ++ rest → Gives show result (Ok (Some (r, record_len r)))
given_only show pages at bytes result given r rest is placed e =
    let read : read_record pages at bytes ≡ Ok (Some (r, record_len r)) = ap (λ (k : ℕ). read_record pages k bytes) (sym placed) ∙ ap (read_record pages r.lsn.0) e ∙ record_again pages r rest is in
    subst (λ (f : Result Found Fault). Gives show result f) read given

rows_type : (body : Body) → HasRows body → type_byte body ≡ 7
rows_type (Update key before after) h = absurd h
rows_type (Compensation undo_next key after) h = absurd h
rows_type Commit h = absurd h
rows_type Rollback h = absurd h
rows_type End h = absurd h
rows_type BeginCheckpoint h = absurd h
rows_type (EndCheckpoint transactions pages) h = refl
rows_type Prepare h = absurd h

-- where a record with rows is found, its type is 7
takes_type : (pages at : ℕ) (bytes : List ℕ) (read : Result Found Fault) → IsBytes bytes → read_record pages at bytes ≡ read → TakesMemory read → type_at bytes ≡ 7
takes_type pages at bytes (Err fault) fits e takes = absurd takes
takes_type pages at bytes (Ok None) fits e takes = absurd takes
takes_type pages at bytes (Ok (Some y)) fits e takes =
    let p = passed pages at bytes y e in
    let size = size_at bytes in
    let kind = type_at bytes in
    let front = take size bytes in
    let rest = drop 28 front in
    let b = bind_some (read_body pages kind rest) (made_of at size (long_at 16 bytes) (word_at 24 bytes)) y p.gives in
    let range = size_range kind size p.is_typed p.is_sized in
    let whole = ltb-false (length bytes) size p.is_whole in
    let rest_len : 28 + length rest ≡ size = omega (arith, length-drop 28 front, length-take size bytes, range.0) in
    let body = body_found pages kind rest b.0 (IsBytes-drop 28 front (IsBytes-take size bytes fits)) p.is_typed (ap (is_size kind) rest_len ∙ p.is_sized) b.1 in
    sym body.kind_is ∙ rows_type b.0 (subst HasRows (sym (ap (λ (x : Record × ℕ). x.0.body) b.2)) takes)

pub given_rows : (pages at : ℕ) (bytes : List ℕ) (result : Result Found Fault) → IfErr result (λ e. e ≡ Memory → TakesMemory (read_record pages at bytes)) → result ≡ Err Memory → TakesMemory (read_record pages at bytes)
given_rows pages at bytes result given e = subst (λ (r : Result Found Fault). IfErr r (λ f. f ≡ Memory → TakesMemory (read_record pages at bytes))) e given refl

pub given_memory : (pages at : ℕ) (bytes : List ℕ) (result : Result Found Fault) → IsBytes bytes → IfErr result (λ e. e ≡ Memory → TakesMemory (read_record pages at bytes)) → result ≡ Err Memory → type_at bytes ≡ 7
given_memory pages at bytes result fits given e = takes_type pages at bytes (read_record pages at bytes) fits refl (given_rows pages at bytes result given e)

-- ---- more bytes, and fewer

zeros_more : (bytes more : List ℕ) → 28 ≤ length bytes → is_reserved_zero (bytes ++ more) ≡ is_reserved_zero bytes
zeros_more bytes more long =
    let five : get_or (bytes ++ more) 5 0 ≡ get_or bytes 5 0 = get_or_append_left bytes more 0 5 (omega arith) in
    let six_same : get_or (bytes ++ more) 6 0 ≡ get_or bytes 6 0 = get_or_append_left bytes more 0 6 (omega arith) in
    let seven : get_or (bytes ++ more) 7 0 ≡ get_or bytes 7 0 = get_or_append_left bytes more 0 7 (omega arith) in
    let zeros : ℕ → ℕ → ℕ → Bool = λ a b c. eqb a 0 && eqb b 0 && eqb c 0 in
    ap (λ (k : ℕ). zeros k (get_or (bytes ++ more) 6 0) (get_or (bytes ++ more) 7 0)) five ∙ ap (λ (k : ℕ). zeros (get_or bytes 5 0) k (get_or (bytes ++ more) 7 0)) six_same ∙ ap (λ (k : ℕ). zeros (get_or bytes 5 0) (get_or bytes 6 0) k) seven

-- reading bytes with more behind them, by the fields of the front
reads_more : (pages at : ℕ) (bytes more : List ℕ) → 28 ≤ length bytes
    → read_record pages at (bytes ++ more) ≡ read_from pages at (length (bytes ++ more)) (size_at bytes) (type_at bytes) (is_reserved_zero bytes) (long_at 8 bytes) (long_at 16 bytes) (word_at 24 bytes) (drop 28 (take (size_at bytes) (bytes ++ more)))
reads_more pages at bytes more long =
    let all = bytes ++ more in
    let len = length all in
    let size = size_at bytes in
    let kind = type_at bytes in
    reads_from pages at all
    ∙ ap (λ (k : ℕ). read_from pages at len k (type_at all) (is_reserved_zero all) (long_at 8 all) (long_at 16 all) (word_at 24 all) (drop 28 (take k all))) (number_more w32 0 bytes more (omega arith))
    ∙ ap (λ (k : ℕ). read_from pages at len size k (is_reserved_zero all) (long_at 8 all) (long_at 16 all) (word_at 24 all) (drop 28 (take size all))) (get_or_append_left bytes more 0 4 (omega arith))
    ∙ ap (λ (z : Bool). read_from pages at len size kind z (long_at 8 all) (long_at 16 all) (word_at 24 all) (drop 28 (take size all))) (zeros_more bytes more long)
    ∙ ap (λ (k : ℕ). read_from pages at len size kind (is_reserved_zero bytes) k (long_at 16 all) (word_at 24 all) (drop 28 (take size all))) (number_more w64 8 bytes more (omega arith))
    ∙ ap (λ (k : ℕ). read_from pages at len size kind (is_reserved_zero bytes) (long_at 8 bytes) k (word_at 24 all) (drop 28 (take size all))) (number_more w64 16 bytes more (omega arith))
    ∙ ap (λ (k : ℕ). read_from pages at len size kind (is_reserved_zero bytes) (long_at 8 bytes) (long_at 16 bytes) k (drop 28 (take size all))) (number_more w32 24 bytes more (omega arith))

more_of : (pages at : ℕ) (bytes more : List ℕ) (short cut : Bool) → ltb (length bytes) 28 ≡ short → ltb (length bytes) (size_at bytes) ≡ cut
    → (read_record pages at bytes ≡ Ok None) ⊎ (read_record pages at (bytes ++ more) ≡ read_record pages at bytes)
more_of pages at bytes more true cut e f = inl (reads_from pages at bytes ∙ rw e refl)
more_of pages at bytes more false true e f =
    let long = ltb-false (length bytes) 28 e in
    let size = size_at bytes in
    let kind = type_at bytes in
    let zeros = is_reserved_zero bytes in
    let placed = eqb (long_at 8 bytes) at in
    let body : List ℕ → Result Found Fault = λ xs. body_read pages at size kind (long_at 16 bytes) (word_at 24 bytes) (drop 28 (take size xs)) in
    let all_long : ltb (length (bytes ++ more)) 28 ≡ false = le-ltb (length (bytes ++ more)) 28 (omega (arith, length-append bytes more)) in
    let one : read_record pages at bytes ≡ six false (is_size kind size) (is_type kind) zeros placed true (body bytes) =
    reads_from pages at bytes ∙ ap (λ (b : Bool). six b (is_size kind size) (is_type kind) zeros placed (ltb (length bytes) size) (body bytes)) e ∙ ap (λ (b : Bool). six false (is_size kind size) (is_type kind) zeros placed b (body bytes)) f in
    let two : read_record pages at (bytes ++ more) ≡ six false (is_size kind size) (is_type kind) zeros placed (ltb (length (bytes ++ more)) size) (body (bytes ++ more)) =
    reads_more pages at bytes more long ∙ ap (λ (b : Bool). six b (is_size kind size) (is_type kind) zeros placed (ltb (length (bytes ++ more)) size) (body (bytes ++ more))) all_long in
    elim (six_cut (is_size kind size) (is_type kind) zeros placed (ltb (length (bytes ++ more)) size) (body bytes) (body (bytes ++ more))) [
      | inl none ↦ inl (one ∙ none)
      | inr same ↦ inr (two ∙ same ∙ sym one)
    ]
more_of pages at bytes more false false e f =
    let long = ltb-false (length bytes) 28 e in
    let whole = ltb-false (length bytes) (size_at bytes) f in
    let size = size_at bytes in
    let kind = type_at bytes in
    let zeros = is_reserved_zero bytes in
    let placed = eqb (long_at 8 bytes) at in
    let body : List ℕ → Result Found Fault = λ xs. body_read pages at size kind (long_at 16 bytes) (word_at 24 bytes) (drop 28 xs) in
    let all_long : ltb (length (bytes ++ more)) 28 ≡ false = le-ltb (length (bytes ++ more)) 28 (omega (arith, length-append bytes more)) in
    let all_whole : ltb (length (bytes ++ more)) size ≡ false = le-ltb (length (bytes ++ more)) size (omega (arith, length-append bytes more)) in
    let one : read_record pages at bytes ≡ six false (is_size kind size) (is_type kind) zeros placed false (body (take size bytes)) =
    reads_from pages at bytes ∙ ap (λ (b : Bool). six b (is_size kind size) (is_type kind) zeros placed (ltb (length bytes) size) (body (take size bytes))) e ∙ ap (λ (b : Bool). six false (is_size kind size) (is_type kind) zeros placed b (body (take size bytes))) f in
    let two : read_record pages at (bytes ++ more) ≡ six false (is_size kind size) (is_type kind) zeros placed false (body (take size (bytes ++ more))) =
    reads_more pages at bytes more long ∙ ap (λ (b : Bool). six b (is_size kind size) (is_type kind) zeros placed (ltb (length (bytes ++ more)) size) (body (take size (bytes ++ more)))) all_long
    ∙ ap (λ (b : Bool). six false (is_size kind size) (is_type kind) zeros placed b (body (take size (bytes ++ more)))) all_whole in
    inr (two ∙ ap (λ (xs : List ℕ). six false (is_size kind size) (is_type kind) zeros placed false (body xs)) (take-append-le size bytes more whole) ∙ sym one)

-- either more bytes are needed, or more bytes behind change nothing
pub read_more : (pages at : ℕ) (bytes more : List ℕ) → (read_record pages at bytes ≡ Ok None) ⊎ (read_record pages at (bytes ++ more) ≡ read_record pages at bytes)
read_more pages at bytes more = more_of pages at bytes more (ltb (length bytes) 28) (ltb (length bytes) (size_at bytes)) refl refl

-- a record that is found stays found
pub found_more : (pages at : ℕ) (bytes more : List ℕ) (x : Record × ℕ) → read_record pages at bytes ≡ Ok (Some x) → read_record pages at (bytes ++ more) ≡ Ok (Some x)
found_more pages at bytes more x e = elim (read_more pages at bytes more) [ inl none ↦ absurd cc | inr same ↦ same ∙ e ]

-- a fault stays
pub fault_more : (pages at : ℕ) (bytes more : List ℕ) (fault : Fault) → read_record pages at bytes ≡ Err fault → read_record pages at (bytes ++ more) ≡ Err fault
fault_more pages at bytes more fault e = elim (read_more pages at bytes more) [ inl none ↦ absurd cc | inr same ↦ same ∙ e ]

-- a proper front of a record waits for more
pub front_waits : (pages : ℕ) (r : Record) (bytes more : List ℕ) → IsRecord pages r → bytes ++ more ≡ spelling r → length bytes < record_len r → read_record pages r.lsn.0 bytes ≡ Ok None
front_waits pages r bytes more is e short =
    elim (read_more pages r.lsn.0 bytes more) [
      | inl none ↦ none
      | inr same ↦
          let whole : spelling r ++ [] ≡ bytes ++ more = append-nil (spelling r) ∙ sym e in
          let found : read_record pages r.lsn.0 bytes ≡ Ok (Some (r, record_len r)) = sym same ∙ ap (read_record pages r.lsn.0) (sym whole) ∙ record_again pages r [] is in
          let within = found_within pages r.lsn.0 bytes r (record_len r) found in
          absurd (omega (arith, within))
    ]

-- ---- one spelling

some_is : (x y : Record × ℕ) → found (Some x) ≡ found (Some y) → x ≡ y
some_is x y e = cc

-- no spelling begins another one at the same LSN
pub one_spelling_is : (pages : ℕ) (a b : Record) (x y : List ℕ) → IsRecord pages a → IsRecord pages b → a.lsn.0 ≡ b.lsn.0 → spelling a ++ x ≡ spelling b ++ y → (a ≡ b) × (x ≡ y)
one_spelling_is pages a b x y is_a is_b placed e =
    let first = record_again pages a x is_a in
    let second : read_record pages a.lsn.0 (spelling a ++ x) ≡ Ok (Some (b, record_len b)) = ap (read_record pages a.lsn.0) e ∙ ap (λ (k : ℕ). read_record pages k (spelling b ++ y)) placed ∙ record_again pages b y is_b in
    let same : a ≡ b = ap (λ (x : Record × ℕ). x.0) (some_is (a, record_len a) (b, record_len b) (sym first ∙ second)) in
    (same, append_cancel_left (spelling a) x y (e ∙ ap (λ (r : Record). spelling r ++ y) (sym same)))
