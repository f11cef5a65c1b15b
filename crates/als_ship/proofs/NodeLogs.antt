-- The log of a node, spelled record by record.
use Rattle.std.proofs.Common.{◌≡◌, ℕ, ◌+◌, ◌<◌, ◌≤◌, eqb, Bool, true, false, List, [], ◌∷◌, ◌++◌, length, Option, None, Some, refl, sym, ap, subst, ◌∙◌, cond, append_assoc, append-nil, length-append, arith}
use Rattle.std.specs.Prelude.{IsTrue, nat_le}
use Rattle.std.proofs.lemmas.Bool.{ne_eqb, eq-eqb, cond-true, cond-false, le-leb, lt-leb}
use Rattle.als_record.specs.declared.record.Record.{Record}
use Rattle.als_record.specs.Spelling.{record_len, spelling}
use Rattle.als_record.specs.LogText.{header_bytes, spellings, log_text, end_of, follow_from}
use Rattle.als_record.specs.Validity.{is_valid}
use Rattle.als_record.proofs.Validity.{valid_induction}
use Rattle.als_record.proofs.HeaderLaws.{length-header_bytes}
use Rattle.als_record.proofs.LogLaws.{spellings-append, spellings-cons, spellings-nil, end_of_is, follow-cons}
use Rattle.als_record.proofs.PageLaws.{follow_from-push, follow_from-parts, end_of-push}
use Rattle.als_record.proofs.Places.{record_len-head}
use Rattle.als_record.proofs.RecordLaws.{length-spelling}
use Rattle.als_log.specs.Reading.{record_at}
use Rattle.als_log.specs.Local.{whole_from, whole_end}
use Rattle.als_ship.specs.Sourced.{SpellsTo}

-- ---- where records stand

follow_none : IsTrue (follow_from 16 [])
unfolding follow_from
follow_none = refl

-- the records of a valid log follow one another
valid_follows : (log : List Record) → is_valid log ≡ true → IsTrue (follow_from 16 log)
valid_follows log v = valid_induction (λ l. IsTrue (follow_from 16 l)) follow_none (λ l r w h a. follow_from-push l r h a.place) log v

-- a record in front of an offset is not at it
behind : (front rest : List Record) (at to : ℕ) → IsTrue (follow_from at front) → at + length (spellings front) ≤ to → record_at (front ++ rest) to ≡ record_at rest to
behind [] rest at to follow low = refl
behind (r ∷ front) rest at to follow low =
    let f = follow-cons at r front follow in
    let long : length (spellings (r ∷ front)) ≡ length (spelling r) + length (spellings front) = ap length (spellings-cons r front) ∙ length-append (spelling r) (spellings front) in
    let size : length (spelling r) ≡ record_len r = length-spelling r in
    let some : 28 ≤ record_len r = record_len-head r in
    cond-false (eqb r.lsn.0 to) (Some r) (record_at (front ++ rest) to) (ne_eqb r.lsn.0 to (λ e. omega (arith, e, f.placed, low, long, size, some)))
    ∙ behind front rest (at + record_len r) to f.others (omega (arith, low, long, size))

-- the record at the end of a front is the next one
pub next_at : (log front rest : List Record) → is_valid log ≡ true → log ≡ front ++ rest → record_at log (end_of front) ≡ record_at rest (end_of front)
next_at log front rest v parts =
    let follow : IsTrue (follow_from 16 (front ++ rest)) = subst (λ (l : List Record). IsTrue (follow_from 16 l)) parts (valid_follows log v) in
    ap (λ (l : List Record). record_at l (end_of front)) parts ∙ behind front rest 16 (end_of front) (follow_from-parts front rest follow).0 (omega (arith, end_of_is front))

pub follows_rest : (log front rest : List Record) → is_valid log ≡ true → log ≡ front ++ rest → IsTrue (follow_from (end_of front) rest)
follows_rest log front rest v parts = (follow_from-parts front rest (subst (λ (l : List Record). IsTrue (follow_from 16 l)) parts (valid_follows log v))).1

-- nothing stands there, so nothing is left
none_left : (rest : List Record) (at : ℕ) → IsTrue (follow_from at rest) → record_at rest at ≡ None → rest ≡ []
none_left [] at follow none = refl
none_left (r ∷ rest) at follow none =
    let f = follow-cons at r rest follow in
    let first : record_at (r ∷ rest) at ≡ Some r = cond-true (eqb r.lsn.0 at) (Some r) (record_at rest at) (eq-eqb r.lsn.0 at f.placed) in
    absurd (cc (first, none))

-- a record stands there, so it is the first of those left
pub record First (rest : List Record) (r : Record) : Type 0 where
  pub others : List Record
  pub parts : rest ≡ r ∷ others

first_left : (rest : List Record) (at : ℕ) (r : Record) → IsTrue (follow_from at rest) → record_at rest at ≡ Some r → First rest r
first_left [] at r follow some = absurd (cc some)
first_left (s ∷ rest) at r follow some =
    let f = follow-cons at s rest follow in
    let first : record_at (s ∷ rest) at ≡ Some s = cond-true (eqb s.lsn.0 at) (Some s) (record_at rest at) (eq-eqb s.lsn.0 at f.placed) in
    let is : s ≡ r = cc (first, some) in
    record { others = rest; parts = ap (λ (x : Record). x ∷ rest) is }

-- ---- what is spelled so far

-- the log's front of these bytes, all of which end at or below the limit
pub record Spelled (pages : ℕ) (log : List Record) (limit : ℕ) (bytes : List ℕ) : Type 0 where
  pub front : List Record
  pub rest : List Record
  pub parts : log ≡ front ++ rest
  pub spelled : bytes ≡ log_text pages front
  pub at : length bytes ≡ end_of front
  pub whole : whole_end log limit ≡ whole_from limit (end_of front) rest

length_text : (pages : ℕ) (log : List Record) → length (log_text pages log) ≡ end_of log
length_text pages log = omega (arith, length-append (header_bytes pages) (spellings log), length-header_bytes pages, end_of_is log)

end_none : end_of [] ≡ 16
unfolding end_of
end_none = refl

pub spelled_none : (pages : ℕ) (log : List Record) (limit : ℕ) (bytes : List ℕ) → bytes ≡ header_bytes pages → Spelled pages log limit bytes
spelled_none pages log limit bytes is =
    let spelled : bytes ≡ log_text pages [] = is ∙ sym (append-nil (header_bytes pages)) ∙ ap (λ (xs : List ℕ). header_bytes pages ++ xs) (sym spellings-nil) in
    record {
      front = [];
      rest = log;
      parts = refl;
      spelled = spelled;
      at = ap length spelled ∙ length_text pages [];
      whole = ap (λ (at : ℕ). whole_from limit at log) (sym end_none);
    }

whole_more : (limit at : ℕ) (r : Record) (rest : List Record) → at + record_len r ≤ limit → whole_from limit at (r ∷ rest) ≡ whole_from limit (at + record_len r) rest
unfolding whole_from
whole_more limit at r rest within = cond-true (nat_le (at + record_len r) limit) (whole_from limit (at + record_len r) rest) at (le-leb (at + record_len r) limit within)

whole_less : (limit at : ℕ) (r : Record) (rest : List Record) → limit < at + record_len r → whole_from limit at (r ∷ rest) ≡ at
unfolding whole_from
whole_less limit at r rest past = cond-false (nat_le (at + record_len r) limit) (whole_from limit (at + record_len r) rest) at (lt-leb (at + record_len r) limit past)

whole_none : (limit at : ℕ) → whole_from limit at [] ≡ at
unfolding whole_from
whole_none limit at = refl

text_push : (pages : ℕ) (front : List Record) (r : Record) → log_text pages front ++ spelling r ≡ log_text pages (front ++ r ∷ [])
text_push pages front r =
    let one : spellings (r ∷ []) ≡ spelling r = spellings-cons r [] ∙ ap (λ (xs : List ℕ). spelling r ++ xs) spellings-nil ∙ append-nil (spelling r) in
    append_assoc (header_bytes pages) (spellings front) (spelling r)
    ∙ ap (λ (xs : List ℕ). header_bytes pages ++ (spellings front ++ xs)) (sym one) ∙ ap (λ (xs : List ℕ). header_bytes pages ++ xs) (sym (spellings-append front (r ∷ [])))

-- the record at the end of what is spelled was spelled too
pub spelled_more : (pages : ℕ) (log : List Record) (limit : ℕ) (bytes more : List ℕ) (r : Record) → is_valid log ≡ true → Spelled pages log limit bytes → record_at log (length bytes) ≡ Some r → length bytes + record_len r ≤ limit → more ≡ bytes ++ spelling r
    → Spelled pages log limit more
spelled_more pages log limit bytes more r v s found within is =
    let there : record_at s.rest (end_of s.front) ≡ Some r = sym (next_at log s.front s.rest v s.parts) ∙ ap (record_at log) (sym s.at) ∙ found in
    let first : First s.rest r = first_left s.rest (end_of s.front) r (follows_rest log s.front s.rest v s.parts) there in
    let spelled : more ≡ log_text pages (s.front ++ r ∷ []) = is ∙ ap (λ (xs : List ℕ). xs ++ spelling r) s.spelled ∙ text_push pages s.front r in
    let grown : end_of (s.front ++ r ∷ []) ≡ end_of s.front + record_len r = end_of-push s.front r in
    record {
      front = s.front ++ r ∷ [];
      rest = first.others;
      parts = s.parts ∙ ap (λ (l : List Record). s.front ++ l) first.parts ∙ sym (append_assoc s.front (r ∷ []) first.others);
      spelled = spelled;
      at = ap length spelled ∙ length_text pages (s.front ++ r ∷ []);
      whole = s.whole ∙ ap (whole_from limit (end_of s.front)) first.parts ∙ whole_more limit (end_of s.front) r first.others (omega (arith, within, s.at))
          ∙ ap (λ (at : ℕ). whole_from limit at first.others) (sym grown);
    }

-- nothing more stands there
pub spells_all : (pages : ℕ) (log : List Record) (limit : ℕ) (bytes : List ℕ) → is_valid log ≡ true → Spelled pages log limit bytes → record_at log (length bytes) ≡ None → SpellsTo pages log limit bytes
spells_all pages log limit bytes v s found =
    let there : record_at s.rest (end_of s.front) ≡ None = sym (next_at log s.front s.rest v s.parts) ∙ ap (record_at log) (sym s.at) ∙ found in
    let empty : s.rest ≡ [] = none_left s.rest (end_of s.front) (follows_rest log s.front s.rest v s.parts) there in
    record {
      front = s.front;
      rest = s.rest;
      parts = s.parts;
      ends = sym (s.whole ∙ ap (whole_from limit (end_of s.front)) empty ∙ whole_none limit (end_of s.front));
      spelled = s.spelled;
    }

-- what stands there ends past the limit
pub spells_to : (pages : ℕ) (log : List Record) (limit : ℕ) (bytes : List ℕ) (r : Record) → is_valid log ≡ true → Spelled pages log limit bytes → record_at log (length bytes) ≡ Some r → limit < length bytes + record_len r → SpellsTo pages log limit bytes
spells_to pages log limit bytes r v s found past =
    let there : record_at s.rest (end_of s.front) ≡ Some r = sym (next_at log s.front s.rest v s.parts) ∙ ap (record_at log) (sym s.at) ∙ found in
    let first : First s.rest r = first_left s.rest (end_of s.front) r (follows_rest log s.front s.rest v s.parts) there in
    record {
      front = s.front;
      rest = s.rest;
      parts = s.parts;
      ends = sym (s.whole ∙ ap (whole_from limit (end_of s.front)) first.parts ∙ whole_less limit (end_of s.front) r first.others (omega (arith, past, s.at)));
      spelled = s.spelled;
    }
