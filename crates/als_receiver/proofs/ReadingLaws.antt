-- Laws of how bytes are read as a record: where more are needed, and that more change nothing that was read.
use Rattle.std.proofs.Common.{◌≡◌, ℕ, ◌+◌, ◌<◌, ◌≤◌, Bool, true, false, not, ◌&&◌, if◌then◌else◌, List, ◌++◌, length, slice_index, take, drop, Option, Some, None, IfSome, Result, Ok, Err, nat_lt, nat_le, ◌==◌, refl, ap, ap₂, sym, ◌∙◌, arith, inl, inr, length-append, le-ltb, lt-ltb, leb-true, eqb-true}
use Rattle.std.proofs.lemmas.Bool.{cases_lt, cases_cond, cond-true, cond-false, and_parts}
use Rattle.std.proofs.lemmas.List.{take-append-drop, take-append-le, drop-append-le, length-drop, get_or_append_left}
use Rattle.std.specs.Int.{w32, w64, from_be_bytes}
use Rattle.als_record.specs.declared.fault.Fault.{Fault}
use Rattle.als_record.specs.declared.fault.Fault.TheVariants.{BadLength, BadType, BadReserved, WrongLsn}
use Rattle.als_record.specs.declared.record.Body.{Body}
use Rattle.als_record.specs.declared.record.Record.{Record}
use Rattle.als_record.specs.declared.record_view.RecordView.{RecordView}
use Rattle.als_record.specs.Shown.{shown, shown_found}
use Rattle.als_record.specs.Spelling.{spelling, record_len, IsRecord}
use Rattle.als_receiver.specs.Reception.{Reception, behind, Looks}
use Rattle.als_record.specs.Reading.{◌>>=◌, is_within, is_size, is_type, is_reserved_zero, size_at, type_at, word_at, long_at, read_body, read_record}

abbrev Read : Type 0
Read = Result (Option (Record × ℕ)) Fault

-- four tests in order, and what is read where none applies
abbrev guarded : Bool → Bool → Bool → Bool → Read → Read
guarded a b c d rest = if a then Err BadLength else if b then Err BadType else if c then Err BadReserved else if d then Err WrongLsn else rest

-- where a test applies, the rest does not matter
guarded-rest : (a b c d : Bool) (rest other : Read) → (guarded a b c d rest ≡ rest → ⊥) → guarded a b c d other ≡ guarded a b c d rest
guarded-rest true b c d rest other h = refl
guarded-rest false true c d rest other h = refl
guarded-rest false false true d rest other h = refl
guarded-rest false false false true rest other h = refl
guarded-rest false false false false rest other h = absurd (h refl)

-- the tests of the head, and the record where the bytes are enough
abbrev whole : ℕ → ℕ → ℕ → ℕ → ℕ → ℕ → List ℕ → Read
whole pages at size kind prev trans body =
    read_body pages kind body >>= λ b. Ok (Some (record { lsn = record { 0 = at }; prev = record { 0 = prev }; trans = record { 0 = trans }; body = b }, size))

abbrev steps : ℕ → ℕ → ℕ → ℕ → Bool → ℕ → ℕ → ℕ → Bool → List ℕ → Read
steps pages at size kind zeros own prev trans short body =
    guarded (not (is_size kind size)) (not (is_type kind)) (not zeros) (not (own == at)) (if short then Ok None else whole pages at size kind prev trans body)

read_record-steps : (pages at : ℕ) (bytes : List ℕ) → 28 ≤ length bytes
    → read_record pages at bytes ≡ steps pages at (size_at bytes) (type_at bytes) (is_reserved_zero bytes) (long_at 8 bytes) (long_at 16 bytes) (word_at 24 bytes)
    (nat_lt (length bytes) (size_at bytes)) (drop 28 (take (size_at bytes) bytes))
unfolding read_record
read_record-steps pages at bytes le = cond-false (nat_lt (length bytes) 28) (Ok None) _ (le-ltb (length bytes) 28 le)

read_record-none : (pages at : ℕ) (bytes : List ℕ) → length bytes < 28 → read_record pages at bytes ≡ Ok None
unfolding read_record
read_record-none pages at bytes lt = cond-true (nat_lt (length bytes) 28) (Ok None) _ (lt-ltb (length bytes) 28 lt)

-- ---- more bytes

part-more : (i n : ℕ) (bytes more : List ℕ) → i + n ≤ length bytes → take n (drop i (bytes ++ more)) ≡ take n (drop i bytes)
part-more i n bytes more le =
    let front : i ≤ length bytes = omega arith in
    let back : n ≤ length (drop i bytes) = omega (arith, length-drop {A = ℕ} i bytes) in
    ap (take n) (drop-append-le i bytes more front) ∙ take-append-le n (drop i bytes) more back

-- the steps with more bytes, and the fields that they read
steps-more : (pages at size kind own prev trans : ℕ) (zeros : Bool) (bytes more : List ℕ)
    → (steps pages at size kind zeros own prev trans (nat_lt (length bytes) size) (drop 28 (take size bytes)) ≡ Ok None → ⊥)
    → steps pages at size kind zeros own prev trans (nat_lt (length (bytes ++ more)) size) (drop 28 (take size (bytes ++ more)))
    ≡ steps pages at size kind zeros own prev trans (nat_lt (length bytes) size) (drop 28 (take size bytes))
steps-more pages at size kind own prev trans zeros bytes more some' =
    let body : Bool → List ℕ → Read = λ short part. if short then Ok None else whole pages at size kind prev trans part in
    let all : Read → Read = λ rest. guarded (not (is_size kind size)) (not (is_type kind)) (not zeros) (not (own == at)) rest in
    elim (cases_lt (length bytes) size) [
      | inl lt ↦
          let none : body (nat_lt (length bytes) size) (drop 28 (take size bytes)) ≡ Ok None = ap (λ b. body b (drop 28 (take size bytes))) (lt-ltb (length bytes) size lt) in
          guarded-rest (not (is_size kind size)) (not (is_type kind)) (not zeros) (not (own == at)) (body (nat_lt (length bytes) size) (drop 28 (take size bytes)))
          (body (nat_lt (length (bytes ++ more)) size) (drop 28 (take size (bytes ++ more)))) (λ same. some' (same ∙ none))
      | inr le ↦
          let le' : size ≤ length (bytes ++ more) = omega (arith, le, length-append bytes more) in
          let test : nat_lt (length (bytes ++ more)) size ≡ nat_lt (length bytes) size = le-ltb (length (bytes ++ more)) size le' ∙ sym (le-ltb (length bytes) size le) in
          ap₂ (λ short part. all (body short part)) test (ap (drop 28) (take-append-le size bytes more le))
    ]

-- what was read stays read
pub read_record-more : (pages at : ℕ) (bytes more : List ℕ) → (read_record pages at bytes ≡ Ok None → ⊥) → read_record pages at (bytes ++ more) ≡ read_record pages at bytes
read_record-more pages at bytes more some' =
    elim (cases_lt (length bytes) 28) [
      | inl lt ↦ absurd (some' (read_record-none pages at bytes lt))
      | inr le ↦
          let le' : 28 ≤ length (bytes ++ more) = omega (arith, le, length-append bytes more) in
          let was = read_record-steps pages at bytes le in
          let size : size_at (bytes ++ more) ≡ size_at bytes = ap (from_be_bytes w32) (part-more 0 4 bytes more (omega (arith, le))) in
          let byte : (i : ℕ) → i < 28 → slice_index (bytes ++ more) i ≡ slice_index bytes i = λ i lt. get_or_append_left bytes more 0 i (omega (arith, le, lt)) in
          let kind : type_at (bytes ++ more) ≡ type_at bytes = byte 4 (omega arith) in
          let zeros : is_reserved_zero (bytes ++ more) ≡ is_reserved_zero bytes
          = ap₂ ◌&&◌ (ap₂ ◌&&◌ (ap (λ n. n == 0) (byte 5 (omega arith))) (ap (λ n. n == 0) (byte 6 (omega arith)))) (ap (λ n. n == 0) (byte 7 (omega arith))) in
          let own : long_at 8 (bytes ++ more) ≡ long_at 8 bytes = ap (from_be_bytes w64) (part-more 8 8 bytes more (omega (arith, le))) in
          let prev : long_at 16 (bytes ++ more) ≡ long_at 16 bytes = ap (from_be_bytes w64) (part-more 16 8 bytes more (omega (arith, le))) in
          let trans : word_at 24 (bytes ++ more) ≡ word_at 24 bytes = ap (from_be_bytes w32) (part-more 24 4 bytes more (omega (arith, le))) in
          let all = bytes ++ more in
          read_record-steps pages at all le'
          ∙ ap (λ n. steps pages at n (type_at all) (is_reserved_zero all) (long_at 8 all) (long_at 16 all) (word_at 24 all) (nat_lt (length all) n) (drop 28 (take n all))) size
          ∙ ap (λ n. steps pages at (size_at bytes) n (is_reserved_zero all) (long_at 8 all) (long_at 16 all) (word_at 24 all) (nat_lt (length all) (size_at bytes)) (drop 28 (take (size_at bytes) all))) kind
          ∙ ap (λ b. steps pages at (size_at bytes) (type_at bytes) b (long_at 8 all) (long_at 16 all) (word_at 24 all) (nat_lt (length all) (size_at bytes)) (drop 28 (take (size_at bytes) all))) zeros
          ∙ ap (λ n. steps pages at (size_at bytes) (type_at bytes) (is_reserved_zero bytes) n (long_at 16 all) (word_at 24 all) (nat_lt (length all) (size_at bytes)) (drop 28 (take (size_at bytes) all))) own
          ∙ ap (λ n. steps pages at (size_at bytes) (type_at bytes) (is_reserved_zero bytes) (long_at 8 bytes) n (word_at 24 all) (nat_lt (length all) (size_at bytes)) (drop 28 (take (size_at bytes) all))) prev
          ∙ ap (λ n. steps pages at (size_at bytes) (type_at bytes) (is_reserved_zero bytes) (long_at 8 bytes) (long_at 16 bytes) n (nat_lt (length all) (size_at bytes)) (drop 28 (take (size_at bytes) all))) trans
          ∙ steps-more pages at (size_at bytes) (type_at bytes) (long_at 8 bytes) (long_at 16 bytes) (word_at 24 bytes) (is_reserved_zero bytes) bytes more (λ none. some' (was ∙ none))
          ∙ sym was
    ]

-- ---- where more bytes are needed

within-most : (low high n : ℕ) → true ≡ is_within low high n → n ≤ high
within-most low high n h = let (above, below) = and_parts (nat_le low n) (nat_le n high) (sym h) in leb-true n high below

-- a record takes at most 54,560 bytes
is_size-most : (kind size : ℕ) → is_size kind size ≡ true → size ≤ 54560
is_size-most kind size h =
    let rest4 : Bool = if is_type kind then size == 28 else is_within 28 54560 size in
    let rest3 : Bool = if kind == 7 then is_within 32 54560 size else rest4 in
    let rest2 : Bool = if kind == 2 then is_within 42 73 size else rest3 in
    elim (cases_cond (kind == 1) (is_within 35 97 size) rest2 true (sym h)) [
      | inl one ↦ omega (arith, within-most 35 97 size one)
      | inr more ↦ elim (cases_cond (kind == 2) (is_within 42 73 size) rest3 true more) [
        | inl two ↦ omega (arith, within-most 42 73 size two)
        | inr more ↦ elim (cases_cond (kind == 7) (is_within 32 54560 size) rest4 true more) [
          | inl seven ↦ omega (arith, within-most 32 54560 size seven)
          | inr more ↦ elim (cases_cond (is_type kind) (size == 28) (is_within 28 54560 size) true more) [
            | inl plain ↦ omega (arith, eqb-true size 28 (sym plain))
            | inr none ↦ omega (arith, within-most 28 54560 size none)
          ]
        ]
      ]
    ]

guarded-ok : (a b c d : Bool) (rest : Read) (x : Option (Record × ℕ)) → guarded a b c d rest ≡ Ok x → (a ≡ false) × (rest ≡ Ok x)
guarded-ok true b c d rest x h = absurd cc
guarded-ok false true c d rest x h = absurd cc
guarded-ok false false true d rest x h = absurd cc
guarded-ok false false false true rest x h = absurd cc
guarded-ok false false false false rest x h = (refl, h)

bind-some : (r : Result Body Fault) (f : Body → Record × ℕ) → (r >>= λ b. Ok (Some (f b))) ≡ Ok None → ⊥
bind-some (Ok b) f h = cc
bind-some (Err e) f h = cc

not-false : (b : Bool) → not b ≡ false → b ≡ true
not-false true h = refl
not-false false h = absurd cc

-- more bytes are asked for only where fewer are there than the longest record has
pub read_record-short : (pages at : ℕ) (bytes : List ℕ) → read_record pages at bytes ≡ Ok None → length bytes < 54560
read_record-short pages at bytes none =
    elim (cases_lt (length bytes) 28) [
      | inl lt ↦ omega (arith, lt)
      | inr le ↦
          let size = size_at bytes in
          let kind = type_at bytes in
          let body = drop 28 (take size bytes) in
          let (sized, rest) = guarded-ok (not (is_size kind size)) (not (is_type kind)) (not (is_reserved_zero bytes)) (not (long_at 8 bytes == at))
          (if nat_lt (length bytes) size then Ok None else whole pages at size kind (long_at 16 bytes) (word_at 24 bytes) body) None
          (sym (read_record-steps pages at bytes le) ∙ none) in
          let most : size ≤ 54560 = is_size-most kind size (not-false (is_size kind size) sized) in
          elim (cases_lt (length bytes) size) [
            | inl lt ↦ omega (arith, lt, most)
            | inr le ↦ absurd (bind-some (read_body pages kind body)
                (λ b. (record { lsn = record { 0 = at }; prev = record { 0 = long_at 16 bytes }; trans = record { 0 = word_at 24 bytes }; body = b }, size))
                (sym (cond-false (nat_lt (length bytes) size) (Ok None) (whole pages at size kind (long_at 16 bytes) (word_at 24 bytes) body) (le-ltb (length bytes) size le)) ∙ rest))
          ]
    ]

-- ---- what a look shows

-- what is read of the bytes kept is what a look answers
pub looks_found : (old : Reception) (found : Option (RecordView × ℕ)) → old.refusal ≡ None → read_record old.pages old.wanted old.kept ≡ Ok (shown_found found)
    → IfSome found (λ x. (take x.1 old.kept ≡ spelling (shown x.0)) × (x.1 ≡ record_len (shown x.0)) × (x.1 ≤ length old.kept) × (x.0.lsn.0 ≡ old.wanted) × IsRecord old.pages (shown x.0))
    → Looks old (Ok (shown_found found))
looks_found old None unrefused read h = record { unrefused = unrefused; reading = read; short = read_record-short old.pages old.wanted old.kept read; same = refl }
looks_found old (Some x) unrefused read h =
    let (bytes, size, inside, place, fits) = h in
    let sized : read_record old.pages old.wanted old.kept ≡ Ok (Some (shown x.0, record_len (shown x.0))) = read ∙ ap (λ (n : ℕ). found_ok (Some (shown x.0, n))) size in
    record {
      out = record {
        unrefused = unrefused;
        reading = sized;
        place = place;
        fits = fits;
        bytes = sym (take-append-drop x.1 old.kept) ∙ ap (λ (xs : List ℕ). xs ++ drop x.1 old.kept) bytes;
        after = ap (λ (n : ℕ). behind old n) size ∙ ap (λ (n : ℕ). record { pages = old.pages; wanted = old.wanted + record_len (shown x.0); kept = drop n old.kept; room = old.room; refusal = None }) (sym size);
      };
      size = size;
      bytes = bytes;
      inside = inside;
      shown = record { shown = shown x.0; unrefused = unrefused; reading = read; inside = inside };
    }
  where
    found_ok : Option (Record × ℕ) → Read
    found_ok o = Ok o
