-- Planned records, read again as the engine reads a piece: what is found is a front of them.
use Rattle.std.proofs.Common.{◌≡◌, ℕ, ◌+◌, true, List, [], ◌∷◌, ◌++◌, length, Some, None, Ok, refl, sym, ap, subst, ◌∙◌, append_assoc, append-nil, arith}
use Rattle.std.specs.Prelude.{IsTrue}
use Rattle.std.specs.List.{AllByRecursion}
use Rattle.std.proofs.lemmas.Bool.{and_parts}
use Rattle.std.proofs.lemmas.List.{length-append}
use Rattle.als_record.specs.declared.record.Record.{Record}
use Rattle.als_record.specs.Spelling.{record_len, spelling, IsRecord}
use Rattle.als_record.specs.LogText.{spellings, end_of, follow_from, IsLog}
use Rattle.als_record.specs.Reading.{read_record}
use Rattle.als_record.specs.Validity.{may_follow, may_follow_all, first_bad}
use Rattle.als_record.proofs.RecordLaws.{length-spelling, record_len-low}
use Rattle.als_record.proofs.ReadingLaws.{one_spelling_is}
use Rattle.als_record.proofs.LogLaws.{spellings-nil, spellings-cons, end_of_is, follow-cons, follow-append, first_read}
use Rattle.als_record.proofs.Validity.{may_follow_all-append, Admitted-may_follow, first_bad-admitted}

-- the records are a front of those planned, and the bytes behind them spell the others
pub record IsFrontOf (planned records : List Record) (rest : List ℕ) : Type 0 where
  pub more : List Record
  pub parts : planned ≡ records ++ more
  pub rest_is : rest ≡ spellings more

no_record : (s : Record) (q : List Record) (rest : List ℕ) → spellings [] ≡ spellings (s ∷ q) ++ rest → ⊥
no_record s q rest e = omega (arith, ap length e, ap length spellings-nil, ap length (spellings-cons s q), length-append (spellings (s ∷ q)) rest, length-append (spelling s) (spellings q), length-spelling s, record_len-low s)

pub found_front : (pages at : ℕ) (planned records : List Record) (rest : List ℕ) → IsTrue (follow_from at planned) → IsTrue (follow_from at records) → AllByRecursion (IsRecord pages) planned → AllByRecursion (IsRecord pages) records → spellings planned ≡ spellings records ++ rest → IsFrontOf planned records rest
found_front pages at planned [] rest fp fr ip ir e = record {
  more = planned;
  parts = refl;
  rest_is = sym (e ∙ ap (λ (b : List ℕ). b ++ rest) spellings-nil);
}
found_front pages at [] (s ∷ q) rest fp fr ip ir e = absurd (no_record s q rest e)
found_front pages at (r ∷ p) (s ∷ q) rest fp fr ip ir e =
    let a = follow-cons at r p fp in
    let b = follow-cons at s q fr in
    let both = one_spelling_is pages r s (spellings p) (spellings q ++ rest) ip.0 ir.0 (a.placed ∙ sym b.placed)
    (sym (spellings-cons r p) ∙ e ∙ ap (λ (x : List ℕ). x ++ rest) (spellings-cons s q) ∙ append_assoc (spelling s) (spellings q) rest) in
    let others : IsTrue (follow_from (at + record_len r) q) = subst (λ (t : Record). IsTrue (follow_from (at + record_len t) q)) (sym both.0) b.others in
    let next : IsFrontOf p q rest = found_front pages (at + record_len r) p q rest a.others others ip.1 ir.1 both.1 in
    record {
      more = next.more;
      parts = ap (λ (t : Record). t ∷ p) both.0 ∙ ap (λ (l : List Record). s ∷ l) next.parts;
      rest_is = next.rest_is;
    }

-- ---- records behind a log

All-behind : (P : Record → Type 0) (us more : List Record) → AllByRecursion P (us ++ more) → AllByRecursion P more
All-behind P [] more a = a
All-behind P (u ∷ us) more a = All-behind P us more a.1

pub record Behind (pages : ℕ) (log more : List Record) : Type 0 where
  pub follows : IsTrue (follow_from (end_of log) more)
  pub records : AllByRecursion (IsRecord pages) more

pub Behind-log : (pages : ℕ) (log more : List Record) → IsLog pages (log ++ more) → Behind pages log more
Behind-log pages log more l =
    let parts = and_parts (follow_from 16 log) (follow_from (16 + length (spellings log)) more) (sym (follow-append 16 log more) ∙ l.laid_out) in
    record {
      follows = subst (λ (at : ℕ). IsTrue (follow_from at more)) (sym (end_of_is log)) parts.1;
      records = All-behind (IsRecord pages) log more l.records;
    }

-- the next one is read, and nothing speaks against it
pub next_read : (pages : ℕ) (log front : List Record) (r : Record) (more : List Record) → IsLog pages (log ++ (front ++ r ∷ more)) → read_record pages (end_of (log ++ front)) (spellings (r ∷ more)) ≡ Ok (Some (r, record_len r))
next_read pages log front r more l =
    let b : Behind pages (log ++ front) (r ∷ more) = Behind-log pages (log ++ front) (r ∷ more) (subst (IsLog pages) (sym (append_assoc log front (r ∷ more))) l) in
    ap (read_record pages (end_of (log ++ front))) (sym (append-nil (spellings (r ∷ more))))
    ∙ (first_read pages (end_of (log ++ front)) r more [] b.follows b.records).0

pub next_follows : (log front : List Record) (r : Record) (more : List Record) → may_follow_all log (front ++ r ∷ more) ≡ true → first_bad (log ++ front) r ≡ None
unfolding may_follow_all
next_follows log front r more e =
    let parts = and_parts (may_follow_all log front) (may_follow_all (log ++ front) (r ∷ more)) (sym (may_follow_all-append log front (r ∷ more)) ∙ e) in
    let first = and_parts (may_follow (log ++ front) r) (may_follow_all ((log ++ front) ++ r ∷ []) more) parts.1 in
    first_bad-admitted (log ++ front) r (Admitted-may_follow (log ++ front) r first.0)

-- no bytes are no record yet
pub nothing_read : (pages at : ℕ) → read_record pages at (spellings []) ≡ Ok None
unfolding read_record
nothing_read pages at = ap (read_record pages at) spellings-nil
