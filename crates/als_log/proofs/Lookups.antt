-- Which record stands at an offset, and the bytes of it in the text.
use Rattle.std.proofs.Common.{◌≡◌, ℕ, ◌+◌, ◌<◌, ◌≤◌, eqb, List, [], ◌∷◌, ◌++◌, length, drop, take, Option, Some, None, Result, Ok, Err, refl, sym, ap, subst, inl, inr, ◌∙◌, append_assoc, arith}
use Rattle.std.specs.List.{AllByRecursion}
use Rattle.std.specs.Prelude.{IsTrue, IsSomeAnd, is_some, IfOk, IfErr}
use Rattle.std.specs.Int.{w32, from_be_bytes}
use Rattle.std.proofs.lemmas.Bool.{cond-true, cond-false, cases_Bool, eqb-true, ne_eqb, eq-eqb, false≢true, and_parts}
use Rattle.std.proofs.lemmas.List.{append-nil, length-append, take-take, take_at}
use Rattle.als_record.specs.declared.fault.Fault.{Fault as RecordFault}
use Rattle.als_record.specs.declared.record.Record.{Record}
use Rattle.als_record.specs.Spelling.{record_len, spelling, IsRecord}
use Rattle.als_record.specs.LogText.{spellings, log_text, end_of, follow_from, IsLog}
use Rattle.als_record.specs.declared.fault.Fault.TheVariants.{BadHeader, BadLength, BadType, BadReserved, WrongLsn, BadKey, BadValue, Memory}
use Rattle.als_record.specs.Reading.{word_at, read_record, Fails, HasRows, TakesMemory}
use Rattle.als_record.proofs.LogLaws.{spellings-nil, spellings-cons, end_of_is, end_of_push, follow-cons, follow-append}
use Rattle.als_record.proofs.ReadingLaws.{record_again}
use Rattle.als_record.proofs.RecordLaws.{length-spelling, record_len-low, record_len-high}
use Rattle.als_log.specs.Local.{IsFrontEnd}
use Rattle.als_log.specs.declared.fault.Fault.{Fault as LogFault}
use Rattle.als_log.specs.declared.fault.Fault.TheVariants as log
use Rattle.als_log.specs.Reading.{record_at, HasRecord, HasRowsAt, FailsToLook, without_record}
use Rattle.als_log.proofs.Walks.{all-behind, text-behind, len_field, end_of-parts}

-- ---- lookups

length-spellings : (r : Record) (rest : List Record) → length (spellings (r ∷ rest)) ≡ record_len r + length (spellings rest)
length-spellings r rest = ap length (spellings-cons r rest) ∙ length-append (spelling r) (spellings rest) ∙ ap (λ (n : ℕ). n + length (spellings rest)) (length-spelling r)

-- records at or above an offset are not below it
record_at-below : (log : List Record) (at to : ℕ) → IsTrue (follow_from at log) → to < at → record_at log to ≡ None
record_at-below [] at to follow lt = refl
record_at-below (r ∷ rest) at to follow lt =
    let f = follow-cons at r rest follow in
    cond-false (eqb r.lsn.0 to) (Some r) (record_at rest to) (ne_eqb r.lsn.0 to (λ e. omega (arith, e, f.placed, lt)))
    ∙ record_at-below rest (at + record_len r) to f.others (omega (arith, lt))

-- records that end at or below an offset are not at it
record_at-front : (front rest : List Record) (at to : ℕ) → IsTrue (follow_from at front) → at + length (spellings front) ≤ to → record_at (front ++ rest) to ≡ record_at rest to
record_at-front [] rest at to follow le = refl
record_at-front (r ∷ front) rest at to follow le =
    let f = follow-cons at r front follow in
    let len = length-spellings r front in
    cond-false (eqb r.lsn.0 to) (Some r) (record_at (front ++ rest) to) (ne_eqb r.lsn.0 to (λ e. omega (arith, e, f.placed, le, len, record_len-low r)))
    ∙ record_at-front front rest (at + record_len r) to f.others (omega (arith, le, len))

-- ---- the record behind a front

pub record Placed (pages : ℕ) (log : List Record) (at : ℕ) : Type 0 where
  pub front : List Record
  pub r : Record
  pub rest : List Record
  pub parts : log ≡ front ++ r ∷ rest
  pub ends : end_of front ≡ at
  pub fits : IsRecord pages r
  pub lsn : r.lsn.0 ≡ at
  pub follow : IsTrue (follow_from 16 front)
  pub behind : IsTrue (follow_from (at + record_len r) rest)
  pub there : drop at (log_text pages log) ≡ spelling r ++ spellings rest
  pub low : 28 ≤ record_len r
  pub most : record_len r ≤ 54560
  pub end : at + record_len r ≤ end_of log

pub placed : (pages : ℕ) (log : List Record) (at : ℕ) → IsLog pages log → IsFrontEnd log at → at < end_of log → Placed pages log at
placed pages log at is front below = by_rest front.rest front.parts
  where
    by_rest : (rest : List Record) → log ≡ front.front ++ rest → Placed pages log at
    by_rest [] parts =
        let same : log ≡ front.front = parts ∙ append-nil front.front in
        absurd (omega (arith, below, ap end_of same, front.ends))
    by_rest (r ∷ rest) parts =
        let logged : IsRecord pages r = (all-behind pages front.front (r ∷ rest) (subst (AllByRecursion (IsRecord pages)) parts is.records)).0 in
        let laid : IsTrue (follow_from 16 (front.front ++ r ∷ rest)) = subst (λ (xs : List Record). IsTrue (follow_from 16 xs)) parts is.laid_out in
        let two = and_parts (follow_from 16 front.front) (follow_from (16 + length (spellings front.front)) (r ∷ rest)) (sym (follow-append 16 front.front (r ∷ rest)) ∙ laid) in
        let place : 16 + length (spellings front.front) ≡ at = sym (end_of_is front.front) ∙ front.ends in
        let f = follow-cons at r rest (subst (λ (n : ℕ). IsTrue (follow_from n (r ∷ rest))) place two.1) in
        record {
          front = front.front;
          r = r;
          rest = rest;
          parts = parts;
          ends = front.ends;
          fits = logged;
          lsn = f.placed;
          follow = two.0;
          behind = f.others;
          there = ap (λ (n : ℕ). drop n (log_text pages log)) (sym front.ends) ∙ ap (λ (xs : List Record). drop (end_of front.front) (log_text pages xs)) parts
              ∙ text-behind pages front.front (r ∷ rest) ∙ spellings-cons r rest;
          low = record_len-low r;
          most = record_len-high pages r logged;
          end = omega (arith, ap end_of parts, end_of-parts front.front (r ∷ rest), length-spellings r rest, front.ends);
        }

module _ {pages : ℕ} {log : List Record} {at : ℕ} (p : Placed pages log at) where
  lookup : (to : ℕ) → at ≤ to → record_at log to ≡ record_at (p.r ∷ p.rest) to
  lookup to le =
      ap (λ (xs : List Record). record_at xs to) p.parts
      ∙ record_at-front p.front (p.r ∷ p.rest) 16 to p.follow (omega (arith, end_of_is p.front, p.ends, le))

  -- it is the one at its offset
  pub record_at-placed : record_at log at ≡ Some p.r
  record_at-placed = lookup at (omega arith) ∙ cond-true (eqb p.r.lsn.0 at) (Some p.r) (record_at p.rest at) (eq-eqb p.r.lsn.0 at p.lsn)

  -- there is none inside it
  pub record_at-inside : (to : ℕ) → at < to → to < at + record_len p.r → record_at log to ≡ None
  record_at-inside to above below =
      lookup to (omega (arith, above))
      ∙ cond-false (eqb p.r.lsn.0 to) (Some p.r) (record_at p.rest to) (ne_eqb p.r.lsn.0 to (λ e. omega (arith, e, p.lsn, above)))
      ∙ record_at-below p.rest (at + record_len p.r) to p.behind below

  -- its length field, and all of its bytes
  pub field : (bytes : List ℕ) → bytes ≡ take 4 (drop at (log_text pages log)) → word_at 0 bytes ≡ record_len p.r
  field bytes is =
      ap (word_at 0) is
      ∙ ap (λ (xs : List ℕ). word_at 0 (take 4 xs)) p.there
      ∙ ap (from_be_bytes w32) (take-take 4 4 (spelling p.r ++ spellings p.rest) (omega arith))
      ∙ len_field pages p.r (spellings p.rest) p.fits

  field-front : (bytes : List ℕ) (m : ℕ) → 4 ≤ m → bytes ≡ take m (drop at (log_text pages log)) → word_at 0 bytes ≡ record_len p.r
  field-front bytes m enough is =
      ap (word_at 0) is
      ∙ ap (λ (xs : List ℕ). word_at 0 (take m xs)) p.there
      ∙ ap (from_be_bytes w32) (take-take 4 m (spelling p.r ++ spellings p.rest) enough)
      ∙ len_field pages p.r (spellings p.rest) p.fits

  pub spelled : take (record_len p.r) (drop at (log_text pages log)) ≡ spelling p.r
  spelled = ap (take (record_len p.r)) p.there ∙ take_at (spelling p.r) (spellings p.rest) (record_len p.r) (length-spelling p.r)

  -- where it begins bytes that have all of it, their front of its length is it
  pub front-spelled : (bytes front : List ℕ) (m : ℕ) → 4 ≤ m → bytes ≡ take m (drop at (log_text pages log)) → word_at 0 bytes ≤ m → front ≡ take (word_at 0 bytes) bytes → front ≡ spelling p.r
  front-spelled bytes front m enough is whole are =
      let size : word_at 0 bytes ≡ record_len p.r = field-front bytes m enough is in
      let within : record_len p.r ≤ m = omega (arith, size, whole) in
      are
      ∙ ap (λ (n : ℕ). take n bytes) size
      ∙ ap (take (record_len p.r)) is
      ∙ take-take (record_len p.r) m (drop at (log_text pages log)) within
      ∙ spelled

  -- behind it another one may stand
  pub placed-end : IsFrontEnd log (at + record_len p.r)
  placed-end = record {
    front = p.front ++ p.r ∷ [];
    rest = p.rest;
    parts = p.parts ∙ sym (append_assoc p.front (p.r ∷ []) p.rest);
    ends = end_of_push p.front p.r ∙ ap (λ (n : ℕ). n + record_len p.r) p.ends;
  }

-- there is none below the first record, and none from the end on
pub record_at-first : (pages : ℕ) (log : List Record) (to : ℕ) → IsLog pages log → to < 16 → record_at log to ≡ None
record_at-first pages log to is lt = record_at-below log 16 to is.laid_out lt

pub record_at-end : (pages : ℕ) (log : List Record) (to : ℕ) → IsLog pages log → end_of log ≤ to → record_at log to ≡ None
record_at-end pages log to is le =
    ap (λ (xs : List Record). record_at xs to) (sym (append-nil log)) ∙ record_at-front log [] 16 to is.laid_out (omega (arith, end_of_is log, le))

-- where a walk may begin
pub front-first : (log : List Record) → IsFrontEnd log 16
unfolding end_of
front-first log = record { front = []; rest = log; parts = refl; ends = refl }

-- ---- what decoding gave

abbrev Read : Type 0
Read = Result (Option (Record × ℕ)) RecordFault

pub found-same : (r found : Record) (n m : ℕ) (o : Option (Record × ℕ)) → ◌≡◌ {A = Read} (Ok (Some (r, n))) (Ok o) → o ≡ Some (found, m) → r ≡ found
found-same r found n m o read is =
    let both : ◌≡◌ {A = Read} (Ok (Some (r, n))) (Ok (Some (found, m))) = read ∙ ap (λ (x : Option (Record × ℕ)). let y : Read = Ok x in y) is in
    same_pair (r, n) (found, m) both
  where
    same_pair : (x y : Record × ℕ) → ◌≡◌ {A = Read} (Ok (Some x)) (Ok (Some y)) → x.0 ≡ y.0
    same_pair x y h = let pair : x ≡ y = cc h in ap (λ (z : Record × ℕ). z.0) pair

pub found-none : (x : Record × ℕ) (o : Option (Record × ℕ)) → ◌≡◌ {A = Read} (Ok (Some x)) (Ok o) → o ≡ None → ⊥
found-none x o read is =
    let both : ◌≡◌ {A = Read} (Ok (Some x)) (Ok None) = read ∙ ap (λ (x : Option (Record × ℕ)). let y : Read = Ok x in y) is in
    cc both

abbrev found : Record × ℕ → Read
found x = Ok (Some x)

abbrev refused : RecordFault → Read
refused e = Err e

found-refused : (x : Record × ℕ) (e : RecordFault) → found x ≡ refused e → ⊥
found-refused x e read = cc read

-- where a record is spelled, it is not found for want of memory alone, for its rows
no_memory : (x : Record × ℕ) (e : RecordFault) (read : Read) → Fails e (found x) → read ≡ found x → (refused e ≡ refused Memory → TakesMemory read) → HasRows x.0.body
no_memory x Memory read fails is takes = subst TakesMemory is (takes refl)
no_memory x BadHeader read fails is takes = absurd (found-refused x BadHeader fails)
no_memory x BadLength read fails is takes = absurd (found-refused x BadLength fails)
no_memory x BadType read fails is takes = absurd (found-refused x BadType fails)
no_memory x BadReserved read fails is takes = absurd (found-refused x BadReserved fails)
no_memory x WrongLsn read fails is takes = absurd (found-refused x WrongLsn fails)
no_memory x BadKey read fails is takes = absurd (found-refused x BadKey fails)
no_memory x BadValue read fails is takes = absurd (found-refused x BadValue fails)

pub wants_rows : {pages : ℕ} {log : List Record} {at : ℕ} (p : Placed pages log at) (e : RecordFault) (bytes : List ℕ) → bytes ≡ spelling p.r ++ [] → Fails e (found (p.r, record_len p.r))
    → (refused e ≡ refused Memory → TakesMemory (read_record pages at bytes)) → HasRowsAt log at
wants_rows {pages} {log} {at} p e bytes is fails takes =
    let read : read_record pages at bytes ≡ found (p.r, record_len p.r)
    = ap (λ (n : ℕ). read_record pages n bytes) (sym p.lsn) ∙ ap (read_record pages p.r.lsn.0) is ∙ record_again pages p.r [] p.fits in
    subst (λ (o : Option Record). IsSomeAnd o (λ r. HasRows r.body)) (sym (record_at-placed p)) (no_memory (p.r, record_len p.r) e (read_record pages at bytes) fails read takes)

-- a record that is spelled is found
pub found-where_spelled : (x : Record × ℕ) (e : RecordFault) → Fails e (found x) → IfOk (without_record e) (λ o. o ≡ Some x.0)
found-where_spelled x Memory fails = tt
found-where_spelled x BadHeader fails = absurd (found-refused x BadHeader fails)
found-where_spelled x BadLength fails = absurd (found-refused x BadLength fails)
found-where_spelled x BadType fails = absurd (found-refused x BadType fails)
found-where_spelled x BadReserved fails = absurd (found-refused x BadReserved fails)
found-where_spelled x WrongLsn fails = absurd (found-refused x WrongLsn fails)
found-where_spelled x BadKey fails = absurd (found-refused x BadKey fails)
found-where_spelled x BadValue fails = absurd (found-refused x BadValue fails)

-- what is not found wants memory for its rows
pub rows-where_spelled : (pages at : ℕ) (e : RecordFault) (bytes : List ℕ) → ((r : Record) → IsRecord pages r → r.lsn.0 ≡ at → bytes ≡ spelling r → Fails e (found (r, record_len r)))
    → (refused e ≡ refused Memory → TakesMemory (read_record pages at bytes))
    → IfErr (without_record e) (λ f. (f ≡ log.Memory) × ((r : Record) → IsRecord pages r → r.lsn.0 ≡ at → bytes ≡ spelling r → HasRows r.body))
rows-where_spelled pages at Memory bytes fails takes = (
  refl,
  λ r fits lsn is.
      let read : read_record pages at bytes ≡ found (r, record_len r)
      = ap (λ (n : ℕ). read_record pages n bytes) (sym lsn) ∙ ap (read_record pages r.lsn.0) (is ∙ sym (append-nil (spelling r))) ∙ record_again pages r [] fits in
      no_memory (r, record_len r) Memory (read_record pages at bytes) (fails r fits lsn is) read takes,
)
rows-where_spelled pages at BadHeader bytes fails takes = tt
rows-where_spelled pages at BadLength bytes fails takes = tt
rows-where_spelled pages at BadType bytes fails takes = tt
rows-where_spelled pages at BadReserved bytes fails takes = tt
rows-where_spelled pages at WrongLsn bytes fails takes = tt
rows-where_spelled pages at BadKey bytes fails takes = tt
rows-where_spelled pages at BadValue bytes fails takes = tt

-- ---- a record that is found stands behind a front

pub record Stands (log : List Record) (from at : ℕ) : Type 0 where
  pub front : List Record
  pub rest : List Record
  pub parts : log ≡ front ++ rest
  pub place : from + length (spellings front) ≡ at
  pub within : at < from + length (spellings log)

stands : (log : List Record) (from at : ℕ) → IsTrue (follow_from from log) → HasRecord log at → Stands log from at
stands [] from at follow has = absurd (false≢true has)
stands (r ∷ rest) from at follow has =
    let f = follow-cons from r rest follow in
    let len = length-spellings r rest in
    elim (cases_Bool (eqb r.lsn.0 at)) [
      | inl e ↦ record {
        front = [];
        rest = r ∷ rest;
        parts = refl;
        place = omega (arith, ap length spellings-nil, f.placed, eqb-true r.lsn.0 at e);
        within = omega (arith, len, f.placed, eqb-true r.lsn.0 at e, record_len-low r);
      }
      | inr e ↦
          let later : record_at (r ∷ rest) at ≡ record_at rest at = cond-false (eqb r.lsn.0 at) (Some r) (record_at rest at) e in
          let s = stands rest (from + record_len r) at f.others (ap (λ (o : Option Record). is_some o) (sym later) ∙ has) in
          record {
            front = r ∷ s.front;
            rest = s.rest;
            parts = ap (λ (xs : List Record). r ∷ xs) s.parts;
            place = omega (arith, s.place, length-spellings r s.front);
            within = omega (arith, s.within, len);
          }
    ]

-- it is where records end, and below the log's end
pub has-front : (log : List Record) (at : ℕ) → IsTrue (follow_from 16 log) → HasRecord log at → IsFrontEnd log at × (at < end_of log)
has-front log at follow has =
    let s = stands log 16 at follow has in
    (record { front = s.front; rest = s.rest; parts = s.parts; ends = end_of_is s.front ∙ s.place }, omega (arith, s.within, end_of_is log))

pub placed-record : (pages : ℕ) (log : List Record) (at : ℕ) → IsLog pages log → HasRecord log at → Placed pages log at
placed-record pages log at is has = let f = has-front log at is.laid_out has in placed pages log at is f.0 f.1

-- only want of memory for its rows is in the way of a record that was read
pub fails_to_look : {X : Type 0} (us : List Record) (at before now : ℕ) (answer : Result X LogFault) → now ≡ before → IfErr answer (λ e. (e ≡ log.Memory) × (HasRecord us at → HasRowsAt us at)) → IfErr answer (λ e. FailsToLook us at e before now)
fails_to_look us at before now (Ok x) same h = tt
fails_to_look us at before now (Err e) same h = subst (λ e. FailsToLook us at e before now) (sym h.0) (h.1, same)
