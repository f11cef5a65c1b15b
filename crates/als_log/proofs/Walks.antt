-- Walks over a text: where records end, and the length field at the front of each.
use Rattle.std.proofs.Common.{◌≡◌, ℕ, ◌+◌, ◌-◌, ◌^◌, ◌<◌, ◌≤◌, List, [], ◌∷◌, ◌++◌, length, drop, take, refl, sym, ap, subst, ◌∙◌, append_assoc, arith}
use Rattle.std.specs.List.{AllByRecursion, sum_by}
use Rattle.std.specs.Int.{w32, from_be_bytes}
use Rattle.std.specs.Prelude.{nat_le}
use Rattle.std.proofs.lemmas.Bool.{le-leb, lt-leb, cond-true, cond-false}
use Rattle.std.proofs.lemmas.List.{append-nil, length-append, length-drop, drop-drop, drop_at}
use Rattle.std.proofs.lemmas.List.Sums.{sum_by-cons}
use Rattle.als_record.specs.declared.record.Record.{Record}
use Rattle.als_record.specs.Spelling.{head, body_bytes, type_byte, record_len, spelling, IsRecord}
use Rattle.als_record.specs.LogText.{header_bytes, spellings, log_text, end_of}
use Rattle.als_record.specs.Reading.{word_at}
use Rattle.als_record.proofs.HeaderLaws.{length-header_bytes}
use Rattle.als_record.proofs.LogLaws.{spellings-cons, spellings-append, end_of_is, end_of_push}
use Rattle.als_record.proofs.RecordLaws.{length-spelling, record_len-low, record_len-high, head_again}
use Rattle.als_log.specs.Local.{IsFrontEnd, whole_from, whole_end}
use Rattle.als_log.specs.Held.{IsText}

-- ---- ends

-- records that end at or below the limit are stepped over
whole_from-front : (limit at : ℕ) (front rest : List Record) → at + sum_by record_len front ≤ limit → whole_from limit at (front ++ rest) ≡ whole_from limit (at + sum_by record_len front) rest
unfolding whole_from
whole_from-front limit at [] rest le = ap (λ (n : ℕ). whole_from limit n rest) (omega arith)
whole_from-front limit at (r ∷ front) rest le =
    let sum : sum_by record_len (r ∷ front) ≡ record_len r + sum_by record_len front = sum_by-cons record_len r front in
    let within : at + record_len r ≤ limit = omega (arith, le, sum) in
    let below : at + record_len r + sum_by record_len front ≤ limit = omega (arith, le, sum) in
    cond-true (nat_le (at + record_len r) limit) (whole_from limit (at + record_len r) (front ++ rest)) at (le-leb (at + record_len r) limit within)
    ∙ whole_from-front limit (at + record_len r) front rest below
    ∙ ap (λ (n : ℕ). whole_from limit n rest) (omega (arith, sum))

whole_end-front : (limit : ℕ) (front rest : List Record) → end_of front ≤ limit → whole_end (front ++ rest) limit ≡ whole_from limit (end_of front) rest
unfolding end_of
whole_end-front limit front rest le = whole_from-front limit 16 front rest le

-- a record that ends past the limit is where the walk stops
pub whole_end-stop : (limit : ℕ) (log front rest : List Record) (r : Record) → log ≡ front ++ r ∷ rest → end_of front ≤ limit → limit < end_of front + record_len r → whole_end log limit ≡ end_of front
unfolding whole_from
whole_end-stop limit log front rest r parts le past =
    ap (λ (xs : List Record). whole_end xs limit) parts
    ∙ whole_end-front limit front (r ∷ rest) le
    ∙ cond-false (nat_le (end_of front + record_len r) limit) (whole_from limit (end_of front + record_len r) rest) (end_of front) (lt-leb (end_of front + record_len r) limit past)

whole_from-stays : (limit : ℕ) (rest : List Record) → whole_from limit limit rest ≡ limit
unfolding whole_from
whole_from-stays limit [] = refl
whole_from-stays limit (r ∷ rest) =
    let past : limit < limit + record_len r = omega (arith, record_len-low r) in
    cond-false (nat_le (limit + record_len r) limit) (whole_from limit (limit + record_len r) rest) limit (lt-leb (limit + record_len r) limit past)

-- an end at the limit is the one
pub whole_end-at : (limit : ℕ) (log : List Record) → IsFrontEnd log limit → whole_end log limit ≡ limit
whole_end-at limit log at = ap (λ (xs : List Record). whole_end xs limit) at.parts ∙ whole_end-front limit at.front at.rest (omega (arith, at.ends)) ∙ ap (λ (n : ℕ). whole_from limit n at.rest) at.ends ∙ whole_from-stays limit at.rest

-- ---- one step

-- the record that stands at an offset, with its length field in memory
pub record Standing (log : List Record) (bytes : List ℕ) (base at : ℕ) : Type 0 where
  pub front : List Record
  pub r : Record
  pub rest : List Record
  pub parts : log ≡ front ++ r ∷ rest
  pub ends : end_of front ≡ at
  pub len : word_at (at - base) bytes ≡ record_len r
  pub within : at - base + 4 ≤ length bytes
  pub most : record_len r ≤ 54560
  pub end : at + record_len r ≤ end_of log

pub all-behind : (pages : ℕ) (front rest : List Record) → AllByRecursion (IsRecord pages) (front ++ rest) → AllByRecursion (IsRecord pages) rest
all-behind pages [] rest all = all
all-behind pages (r ∷ front) rest all = all-behind pages front rest all.1

-- the text behind records in front
pub text-behind : (pages : ℕ) (front rest : List Record) → drop (end_of front) (log_text pages (front ++ rest)) ≡ spellings rest
text-behind pages front rest =
    let head_len : length (header_bytes pages ++ spellings front) ≡ end_of front = omega (arith, length-append (header_bytes pages) (spellings front), length-header_bytes pages, end_of_is front) in
    let regrouped : log_text pages (front ++ rest) ≡ (header_bytes pages ++ spellings front) ++ spellings rest
    = ap (λ (xs : List ℕ). header_bytes pages ++ xs) (spellings-append front rest) ∙ sym (append_assoc (header_bytes pages) (spellings front) (spellings rest)) in
    ap (drop (end_of front)) regrouped ∙ drop_at (header_bytes pages ++ spellings front) (spellings rest) (end_of front) head_len

-- the length field of a record at the front of bytes
pub len_field : (pages : ℕ) (r : Record) (more : List ℕ) → IsRecord pages r → from_be_bytes w32 (take 4 (spelling r ++ more)) ≡ record_len r
unfolding spelling
len_field pages r more is =
    let front = head (record_len r) (type_byte r.body) r.lsn.0 r.prev.0 r.trans.0 in
    let small : record_len r < 2 ^ 32 = omega (arith, record_len-high pages r is) in
    let again = head_again (record_len r) (type_byte r.body) r.lsn.0 r.prev.0 r.trans.0 (body_bytes r.body ++ more) small is.lsn is.prev is.trans in
    ap (λ (xs : List ℕ). from_be_bytes w32 (take 4 xs)) (append_assoc front (body_bytes r.body) more) ∙ again.size_is

pub end_of-parts : (front rest : List Record) → end_of (front ++ rest) ≡ end_of front + length (spellings rest)
end_of-parts front rest = omega (arith, end_of_is (front ++ rest), end_of_is front, ap length (spellings-append front rest), length-append (spellings front) (spellings rest))

pub standing : (log : List Record) (bytes : List ℕ) (base at : ℕ) → IsText log bytes base → IsFrontEnd log at → base ≤ at → at < end_of log → Standing log bytes base at
standing log bytes base at text front low below = by_rest front.rest front.parts
  where
    by_rest : (rest : List Record) → log ≡ front.front ++ rest → Standing log bytes base at
    by_rest [] parts =
        let same : log ≡ front.front = parts ∙ append-nil front.front in
        absurd (omega (arith, below, ap end_of same, front.ends))
    by_rest (r ∷ rest) parts =
        let logged : IsRecord text.pages r = (all-behind text.pages front.front (r ∷ rest) (subst (AllByRecursion (IsRecord text.pages)) parts text.is_log.records)).0 in
        let there : drop (at - base) bytes ≡ spelling r ++ spellings rest
        = ap (drop (at - base)) text.held
        ∙ drop-drop (at - base) base (log_text text.pages log)
        ∙ ap (λ (n : ℕ). drop n (log_text text.pages log)) (let e : base + (at - base) ≡ end_of front.front = omega (arith, low, front.ends) in e)
        ∙ ap (λ (xs : List Record). drop (end_of front.front) (log_text text.pages xs)) parts
        ∙ text-behind text.pages front.front (r ∷ rest)
        ∙ spellings-cons r rest in
        let long : length (drop (at - base) bytes) ≡ record_len r + length (spellings rest) = ap length there ∙ length-append (spelling r) (spellings rest) ∙ ap (λ (n : ℕ). n + length (spellings rest)) (length-spelling r) in
        let whole : length (spellings (r ∷ rest)) ≡ record_len r + length (spellings rest) = ap length (spellings-cons r rest) ∙ length-append (spelling r) (spellings rest) ∙ ap (λ (n : ℕ). n + length (spellings rest)) (length-spelling r) in
        record {
          front = front.front;
          r = r;
          rest = rest;
          parts = parts;
          ends = front.ends;
          len = ap (λ (xs : List ℕ). from_be_bytes w32 (take 4 xs)) there ∙ len_field text.pages r (spellings rest) logged;
          within = omega (arith, long, length-drop (at - base) bytes, record_len-low r);
          most = record_len-high text.pages r logged;
          end = omega (arith, ap end_of parts, end_of-parts front.front (r ∷ rest), whole, front.ends);
        }

-- behind that record another one may stand
pub next_end : (log : List Record) (bytes : List ℕ) (base at : ℕ) (s : Standing log bytes base at) → IsFrontEnd log (at + record_len s.r)
next_end log bytes base at s = record {
  front = s.front ++ s.r ∷ [];
  rest = s.rest;
  parts = s.parts ∙ sym (append_assoc s.front (s.r ∷ []) s.rest);
  ends = end_of_push s.front s.r ∙ ap (λ (n : ℕ). n + record_len s.r) s.ends;
}
