-- The text of a valid log: where it begins with another valid log, that is a front of it.
use Rattle.std.proofs.Common.{◌≡◌, ◌⊎◌, ℕ, ◌+◌, ◌<◌, Bool, true, false, List, [], ◌∷◌, ◌++◌, length, drop, Option, Some, None, Result, Ok, Err, inl, inr, refl, sym, ap, subst, ◌∙◌, append_assoc, length-append, arith}
use Rattle.std.specs.Prelude.{IsTrue, is_none, MatchBool}
use Rattle.std.specs.List.{AllByRecursion}
use Rattle.std.proofs.lemmas.List.{append_cancel_left, drop_at}
use Rattle.als_record.specs.declared.cause.Cause.{Cause}
use Rattle.als_record.specs.declared.fault.Fault.{Fault as ShapeFault}
use Rattle.als_record.specs.declared.record.Record.{Record}
use Rattle.als_record.specs.Spelling.{record_len, spelling, IsRecord}
use Rattle.als_record.specs.Reading.{read_record}
use Rattle.als_record.specs.LogText.{header_bytes, spellings, log_text, end_of, follow_from}
use Rattle.als_record.specs.Validity.{IsValidLog, first_bad}
use Rattle.als_record.proofs.LogLaws.{spellings-nil, spellings-cons, follow-cons, end_of_is}
use Rattle.als_record.proofs.ReadingLaws.{record_again, one_spelling_is}
use Rattle.als_record.proofs.RecordLaws.{length-spelling, record_len-low}
use Rattle.als_record.proofs.Validity.{is_valid-first_bad}
use Rattle.als_record.proofs.TailFirst.{IsValidLog-front}
use Rattle.als_scan.specs.declared.fault.Fault.{Fault}
use Rattle.als_scan.specs.declared.fault.Fault.TheVariants.{Shape, Invalid, BadControl, Device, Memory}
use Rattle.als_scan.specs.Scanned.{Scanned, IsScanned, HandsOut, HandsNext, RefusesNext, GivesNext, BeginsSo, first_of, next_reading}
use Rattle.als_scan.proofs.ReadingLaws.{length-text}

-- ---- a front

record Split (log front : List Record) (rest : List ℕ) : Type 0 where
  pub more : List Record
  pub parts : log ≡ front ++ more
  pub bytes : rest ≡ spellings more

behind : (r s : Record) (log front : List Record) (rest : List ℕ) → r ≡ s → Split log front rest → Split (r ∷ log) (s ∷ front) rest
behind r s log front rest e x = record {
  more = x.more;
  parts = ap (λ (t : Record). t ∷ log) e ∙ ap (λ (l : List Record). s ∷ l) x.parts;
  bytes = x.bytes;
}

split : (pages at : ℕ) (log front : List Record) (rest : List ℕ) → IsTrue (follow_from at log) → IsTrue (follow_from at front) → AllByRecursion (IsRecord pages) log → AllByRecursion (IsRecord pages) front → spellings log ≡ spellings front ++ rest → Split log front rest
split pages at log [] rest fl ff il if_ e = record { more = log; parts = refl; bytes = sym (e ∙ ap (λ (xs : List ℕ). xs ++ rest) spellings-nil) }
split pages at [] (s ∷ front) rest fl ff il if_ e =
    absurd (omega (arith, ap length spellings-nil, ap length e, length-append (spellings (s ∷ front)) rest, ap length (spellings-cons s front), length-append (spelling s) (spellings front), length-spelling s, record_len-low s))
split pages at (r ∷ log) (s ∷ front) rest fl ff il if_ e =
    let ra = follow-cons at r log fl in
    let sb = follow-cons at s front ff in
    let both = one_spelling_is pages r s (spellings log) (spellings front ++ rest) il.0 if_.0 (ra.placed ∙ sym sb.placed)
    (sym (spellings-cons r log) ∙ e ∙ ap (λ (xs : List ℕ). xs ++ rest) (spellings-cons s front) ∙ append_assoc (spelling s) (spellings front) rest) in
    let again : IsTrue (follow_from (at + record_len r) front) = subst (λ (t : Record). IsTrue (follow_from (at + record_len t) front)) (sym both.0) sb.others in
    behind r s log front rest both.0 (split pages (at + record_len r) log front rest ra.others again il.1 if_.1 both.1)

front_of : (pages : ℕ) (log front : List Record) (rest : List ℕ) → IsValidLog pages log → IsValidLog pages front → log_text pages log ≡ log_text pages front ++ rest → Split log front rest
front_of pages log front rest v w parts =
    let e : spellings log ≡ spellings front ++ rest = append_cancel_left (header_bytes pages) (spellings log) (spellings front ++ rest) (parts ∙ append_assoc (header_bytes pages) (spellings front) rest) in
    split pages 16 log front rest v.text.laid_out w.text.laid_out v.text.records w.text.records e

-- ---- the record behind it

record Follows (pages : ℕ) (front : List Record) (r : Record) (rest : List ℕ) : Type 0 where
  pub reading : read_record pages (end_of front) rest ≡ Ok (Some (r, record_len r))
  pub good : first_bad front r ≡ None

none_from : (o : Option Cause) → is_none o ≡ true → o ≡ None
none_from None e = refl
none_from (Some c) e = absurd cc

placed_behind : (pages at : ℕ) (front more : List Record) (r : Record) → IsTrue (follow_from at (front ++ r ∷ more)) → AllByRecursion (IsRecord pages) (front ++ r ∷ more) → (r.lsn.0 ≡ at + length (spellings front)) × IsRecord pages r
placed_behind pages at [] more r f a = ((follow-cons at r more f).placed ∙ (let e : at ≡ at + length (spellings []) = omega (arith, ap length spellings-nil) in e), a.0)
placed_behind pages at (s ∷ front) more r f a =
    let p = placed_behind pages (at + record_len s) front more r (follow-cons at s (front ++ r ∷ more) f).others a.1 in
    (p.0 ∙ (let e : at + record_len s + length (spellings front) ≡ at + length (spellings (s ∷ front)) = omega (arith, ap length (spellings-cons s front), length-append (spelling s) (spellings front), length-spelling s) in e), p.1)

follows : (pages : ℕ) (log front more : List Record) (r : Record) (rest : List ℕ) → IsValidLog pages log → log ≡ front ++ r ∷ more → rest ≡ spellings (r ∷ more) → Follows pages front r rest
follows pages log front more r rest v e b =
    let whole : IsValidLog pages (front ++ r ∷ more) = subst (IsValidLog pages) e v in
    let at = placed_behind pages 16 front more r whole.text.laid_out whole.text.records in
    let there : r.lsn.0 ≡ end_of front = at.0 ∙ sym (end_of_is front) in
    let one : IsValidLog pages (front ++ r ∷ []) = IsValidLog-front pages (front ++ r ∷ []) more (subst (IsValidLog pages) (sym (append_assoc front (r ∷ []) more)) whole) in
    let before : IsValidLog pages front = IsValidLog-front pages front (r ∷ []) one in
    record {
      reading = ap (read_record pages (end_of front)) (b ∙ spellings-cons r more) ∙ ap (λ n. read_record pages n (spelling r ++ spellings more)) (sym there) ∙ record_again pages r (spellings more) at.1;
      good = none_from (first_bad front r) (sym (is_valid-first_bad front r before.valid there) ∙ one.valid);
    }

-- ---- readings differ

no_bytes : (pages at : ℕ) → read_record pages at [] ≡ Ok None
unfolding read_record
no_bytes pages at = refl

no_fault : (x : Option (Record × ℕ)) (s : ShapeFault) (read : Result (Option (Record × ℕ)) ShapeFault) → read ≡ Ok x → read ≡ Err s → ⊥
no_fault x s read a b = let e : ◌≡◌ {A = Result (Option (Record × ℕ)) ShapeFault} (Ok x) (Err s) = sym a ∙ b in cc e

not_both : (x : Record × ℕ) (read : Result (Option (Record × ℕ)) ShapeFault) → read ≡ Ok None → read ≡ Ok (Some x) → ⊥
not_both x read a b = let e : ◌≡◌ {A = Result (Option (Record × ℕ)) ShapeFault} (Ok None) (Ok (Some x)) = sym a ∙ b in cc e

same_found : (x y : Record × ℕ) (read : Result (Option (Record × ℕ)) ShapeFault) → read ≡ Ok (Some x) → read ≡ Ok (Some y) → x ≡ y
same_found x y read a b = let e : ◌≡◌ {A = Result (Option (Record × ℕ)) ShapeFault} (Ok (Some x)) (Ok (Some y)) = sym a ∙ b in cc e

no_cause : (o : Option Cause) (c : Cause) → o ≡ None → o ≡ Some c → ⊥
no_cause o c a b = let e : ◌≡◌ {A = Option Cause} None (Some c) = sym a ∙ b in cc e

no_record : (r : Record) → ◌≡◌ {A = Option Record} (Some r) None → ⊥
no_record r e = cc e

same_record : (r x : Record) → ◌≡◌ {A = Option Record} (Some r) (Some x) → r ≡ x
same_record r x e = cc e

-- ---- a scan of a log's text

module _ (s : Scanned) (f : IsScanned s) (log : List Record) (v : IsValidLog s.pages log) (e : s.text ≡ log_text s.pages log) where
  front : Split log s.log f.rest
  front = front_of s.pages log s.log f.rest v f.valid (sym e ∙ f.parts)

  left : drop (end_of s.log) s.text ≡ f.rest
  left = ap (drop (end_of s.log)) f.parts ∙ drop_at (log_text s.pages s.log) f.rest (end_of s.log) (length-text s.pages s.log)

  -- what is left is so long
  length-left : s.mark ≡ end_of s.log + length f.rest
  length-left = omega (arith, f.size, ap length f.parts, length-append (log_text s.pages s.log) f.rest, length-text s.pages s.log)

  at_end : f.rest ≡ spellings [] → next_reading s ≡ Ok None
  at_end b = ap (read_record s.pages (end_of s.log)) (left ∙ b ∙ spellings-nil) ∙ no_bytes s.pages (end_of s.log)

  before : (r : Record) (more : List Record) → log ≡ s.log ++ r ∷ more → f.rest ≡ spellings (r ∷ more) → (next_reading s ≡ Ok (Some (r, record_len r))) × (first_bad s.log r ≡ None)
  before r more p b =
      let n = follows s.pages log s.log more r f.rest v p b in
      (ap (read_record s.pages (end_of s.log)) left ∙ n.reading, n.good)

  not_at_end : (r : Record) (more : List Record) → f.rest ≡ spellings (r ∷ more) → end_of s.log < s.mark
  not_at_end r more b = omega (arith, length-left, ap length b, ap length (spellings-cons r more), length-append (spelling r) (spellings more), length-spelling r, record_len-low r)

  no_more : f.rest ≡ spellings [] → s.mark ≡ end_of s.log
  no_more b = omega (arith, length-left, ap length b, ap length spellings-nil)

  bare_hands : (found : Option Record) (new : Scanned) → HandsNext s found new → GivesNext log s.log found
  bare_hands found new h = along front.more found front.parts front.bytes h
    where
      along : (more : List Record) (found : Option Record) → log ≡ s.log ++ more → f.rest ≡ spellings more → HandsNext s found new → GivesNext log s.log found
      along [] None p b h = record { rest = []; parts = p; found_is = refl }
      along [] (Some x) p b h = absurd (not_both (x, record_len x) (next_reading s) (at_end b) h.reading)
      along (r ∷ more) None p b h = absurd (omega (arith, h.0.end_is, not_at_end r more b))
      along (r ∷ more) (Some x) p b h =
          let same : r ≡ x = ap (λ (y : Record × ℕ). y.0) (same_found (r, record_len r) (x, record_len x) (next_reading s) (before r more p b).0 h.reading) in
          record { rest = r ∷ more; parts = p; found_is = ap Some (sym same) }

  bare_refuses : (fault : Fault) (new : Scanned) → RefusesNext s fault new → (fault ≡ Device) ⊎ (fault ≡ Memory)
  bare_refuses fault new h = along front.more fault front.parts front.bytes h
    where
      along : (more : List Record) (fault : Fault) → log ≡ s.log ++ more → f.rest ≡ spellings more → RefusesNext s fault new → (fault ≡ Device) ⊎ (fault ≡ Memory)
      along [] (Shape x) p b h = absurd (no_fault None x (next_reading s) (at_end b) h.0)
      along (r ∷ more) (Shape x) p b h = absurd (no_fault (Some (r, record_len r)) x (next_reading s) (before r more p b).0 h.0)
      along [] (Invalid c) p b h = absurd (not_both (h.0.bad, record_len h.0.bad) (next_reading s) (at_end b) h.0.reading)
      along (r ∷ more) (Invalid c) p b h =
          let n = before r more p b in
          let same : r ≡ h.0.bad = ap (λ (y : Record × ℕ). y.0) (same_found (r, record_len r) (h.0.bad, record_len h.0.bad) (next_reading s) n.0 h.0.reading) in
          absurd (no_cause (first_bad s.log h.0.bad) c (ap (first_bad s.log) (sym same) ∙ n.1) h.0.cause_is)
      along [] BadControl p b h = absurd (omega (arith, h.0.some, no_more b))
      along (r ∷ more) BadControl p b h = absurd (not_both (r, record_len r) (next_reading s) h.0.reading (before r more p b).0)
      along [] Device p b h = inl refl
      along (r ∷ more) Device p b h = inl refl
      along [] Memory p b h = inr refl
      along (r ∷ more) Memory p b h = inr refl

-- the same of what callers see of it
pub bare_handed : (now s new : Scanned) (log : List Record) (found : Option Record) → now ≡ s → IsScanned now → IsValidLog now.pages log → now.text ≡ log_text now.pages log → HandsNext s found new → GivesNext log now.log found
bare_handed now s new log found same f v e h = bare_hands now f log v e found new (subst (λ (x : Scanned). HandsNext x found new) (sym same) h)

pub bare_refused : (now s new : Scanned) (log : List Record) (fault : Fault) → now ≡ s → IsScanned now → IsValidLog now.pages log → now.text ≡ log_text now.pages log → RefusesNext s fault new → (fault ≡ Device) ⊎ (fault ≡ Memory)
bare_refused now s new log fault same f v e h = bare_refuses now f log v e fault new (subst (λ (x : Scanned). RefusesNext x fault new) (sym same) h)

-- what is handed out then is still a front of it
goes_on : (log : List Record) (s new : Scanned) (found : Option Record) → HandsNext s found new → GivesNext log s.log found → BeginsSo log new.log
goes_on log s new None h gives = record { rest = gives.rest; parts = gives.parts ∙ ap (λ (x : Scanned). x.log ++ gives.rest) (sym h.1) }
goes_on log s new (Some r) h gives = along gives.rest gives.parts gives.found_is
  where
    along : (rest : List Record) → log ≡ s.log ++ rest → ◌≡◌ {A = Option Record} (Some r) (first_of rest) → BeginsSo log new.log
    along [] p e = absurd (no_record r e)
    along (x ∷ more) p e = record {
      rest = more;
      parts = p ∙ ap (λ (y : Record). s.log ++ y ∷ more) (sym (same_record r x e)) ∙ sym (append_assoc s.log (r ∷ []) more) ∙ ap (λ (x : Scanned). x.log ++ more) (sym h.after);
    }

pub bare_handed_on : (now s new : Scanned) (log : List Record) (took : Record → Type 0) (kept : Type 0) (more : Bool) → now ≡ s → IsScanned now → IsValidLog now.pages log → now.text ≡ log_text now.pages log
    → MatchBool more ((r : Record) × HandsOut s r new × took r) (HandsNext s None new × kept) → BeginsSo log new.log
bare_handed_on now s new log took kept true same f v e (r, h, w) = goes_on log now new (Some r) (subst (λ (x : Scanned). HandsNext x (Some r) new) (sym same) h) (bare_handed now s new log (Some r) same f v e h)
bare_handed_on now s new log took kept false same f v e (h, w) = goes_on log now new None (subst (λ (x : Scanned). HandsNext x None new) (sym same) h) (bare_handed now s new log None same f v e h)
