-- Where a transaction committed.
use Rattle.std.proofs.Common.{◌≡◌, ℕ, ◌+◌, Bool, true, false, List, [], ◌∷◌, ◌++◌, length, Option, Some, None, inl, inr, sym, ap, subst, ◌∙◌, length-append, arith}
use Rattle.std.specs.Prelude.{IsTrue, MatchBool, ◌||◌}
use Rattle.std.proofs.lemmas.Bool.{cases_Bool}
use Rattle.std.proofs.lemmas.List.Folds.{list_any-append}
use Rattle.als_record.specs.declared.lsn.Lsn.{Lsn}
use Rattle.als_record.specs.declared.record.Record.{Record}
use Rattle.als_record.specs.Spelling.{record_len, spelling}
use Rattle.als_record.specs.LogText.{spellings, end_of, follow_from}
use Rattle.als_record.specs.Validity.{IsValidLog}
use Rattle.als_record.proofs.LogLaws.{spellings-nil, spellings-cons, follow-cons, end_of_is}
use Rattle.als_record.proofs.RecordLaws.{length-spelling}
use Rattle.als_lookback.specs.declared.until.Until.TheVariants.{End}
use Rattle.als_lookback.specs.Fronts.{EndsWithin}
use Rattle.als_lookback.specs.Readings.{Reading, Reads, HasStopped}
use Rattle.als_lookback.specs.Seen.{CommitsAt, HasNoCommit, Finds, commits, has_commit}
use Rattle.als_lookback.proofs.FrontLaws.{split, whole}

placed_behind : (pages at : ℕ) (front more : List Record) (r : Record) → IsTrue (follow_from at (front ++ r ∷ more)) → r.lsn.0 ≡ at + length (spellings front)
placed_behind pages at [] more r f = (follow-cons at r more f).placed ∙ (let e : at ≡ at + length (spellings []) = omega (arith, ap length spellings-nil) in e)
placed_behind pages at (s ∷ front) more r f =
    placed_behind pages (at + record_len s) front more r (follow-cons at s (front ++ r ∷ more) f).others
    ∙ (let e : at + record_len s + length (spellings front) ≡ at + length (spellings (s ∷ front)) = omega (arith, ap length (spellings-cons s front), length-append (spelling s) (spellings front), length-spelling s) in e)

placed_last : (pages : ℕ) (front : List Record) (r : Record) → IsValidLog pages (front ++ r ∷ []) → r.lsn.0 ≡ end_of front
placed_last pages front r v = placed_behind pages 16 front [] r v.text.laid_out ∙ sym (end_of_is front)

no_lsn : (x : Option Lsn) (lsn : Lsn) → x ≡ None → x ≡ Some lsn → ⊥
no_lsn x lsn a b = let e : ◌≡◌ {A = Option Lsn} None (Some lsn) = sym a ∙ b in cc e

same_lsn : (x : Option Lsn) (a b : Lsn) → x ≡ Some a → x ≡ Some b → a ≡ b
same_lsn x a b p q = let e : ◌≡◌ {A = Option Lsn} (Some a) (Some b) = sym p ∙ q in cc e

pub none_first : (trans : ℕ) (log : List Record) → log ≡ [] → has_commit trans log ≡ false
none_first trans log e = ap (has_commit trans) e

-- what a step of the search answers
abbrev pub Steps : ℕ → ℕ → Option Lsn → Option Lsn → Reading → Reading → Bool → Type 0 → Type 0
Steps trans same before after mid new more kept = MatchBool more
    ((r : Record) × (new.log ≡ mid.log ++ r ∷ []) × EndsWithin End new.log × Finds trans same before after r)
    (HasStopped End new × (new.log ≡ mid.log) × kept)

note_true : (trans : ℕ) (r : Record) (before after : Option Lsn) → commits trans r ≡ true → MatchBool (commits trans r) (after ≡ Some r.lsn) (after ≡ before) → after ≡ Some r.lsn
note_true trans r before after is n = subst (λ b. MatchBool b (after ≡ Some r.lsn) (after ≡ before)) is n

note_false : (trans : ℕ) (r : Record) (before after : Option Lsn) → commits trans r ≡ false → MatchBool (commits trans r) (after ≡ Some r.lsn) (after ≡ before) → after ≡ before
note_false trans r before after is n = subst (λ b. MatchBool b (after ≡ Some r.lsn) (after ≡ before)) is n

pub find_found : (text : Option (List ℕ)) (trans same : ℕ) (before after : Option Lsn) (lsn : Lsn) (mid new : Reading) (more : Bool) (kept : Type 0) → (kept → after ≡ before) → Steps trans same before after mid new more kept
    → before ≡ None → has_commit trans mid.log ≡ false → IsValidLog new.pages new.log → Reads text new → after ≡ Some lsn → CommitsAt text trans lsn.0
find_found text trans same before after lsn mid new true kept stays (r, grown, within, f) none first valid reads found = elim (cases_Bool (commits trans r)) [
  | inl y ↦
      let at : r.lsn ≡ lsn = same_lsn after r.lsn lsn (note_true trans r before after y f.found_is) found in
      let s = split text new.unread new.pages new.log new.kept reads in
      let v : IsValidLog new.pages (mid.log ++ r ∷ []) = subst (IsValidLog new.pages) grown valid in
      let here : r.lsn.0 ≡ lsn.0 = ap (λ (l : Lsn). l.0) at in
      record {
        pages = new.pages;
        front = mid.log;
        last = r;
        rest = new.kept ++ s.0;
        valid = v;
        parts = rw (← grown) s.1;
        first = first;
        is = y;
        stands = (here, sym (placed_last new.pages mid.log r v) ∙ here);
      }
  | inr m ↦ absurd (no_lsn after lsn (note_false trans r before after m f.found_is ∙ none) found)
]
find_found text trans same before after lsn mid new false kept stays (stopped, grown, k) none first valid reads found = absurd (no_lsn after lsn (stays k ∙ none) found)

pub find_on : (trans same : ℕ) (before after : Option Lsn) (mid new : Reading) (more : Bool) (kept : Type 0) → Steps trans same before after mid new more kept → has_commit trans mid.log ≡ false → after ≡ None → has_commit trans new.log ≡ false
find_on trans same before after mid new true kept (r, grown, within, f) first found = elim (cases_Bool (commits trans r)) [
  | inl y ↦ absurd (no_lsn after r.lsn found (note_true trans r before after y f.found_is))
  | inr m ↦
      ap (has_commit trans) grown ∙ list_any-append (commits trans) mid.log (r ∷ []) ∙ ap (λ b. b || (commits trans r || false)) first ∙ ap (λ b. b || false) m
]
find_on trans same before after mid new false kept (stopped, grown, k) first found = ap (has_commit trans) grown ∙ first

pub find_none : (text : Option (List ℕ)) (trans same : ℕ) (before after : Option Lsn) (mid new : Reading) (more : Bool) (kept : Type 0) → Steps trans same before after mid new more kept → more ≡ false → has_commit trans new.log ≡ false
    → IsValidLog new.pages new.log → Reads text new → HasNoCommit text trans
find_none text trans same before after mid new true kept s ends none valid reads = absurd cc
find_none text trans same before after mid new false kept (stopped, grown, k) ends none valid reads = record {
  pages = new.pages;
  log = new.log;
  whole = record { valid = valid; parts = whole text new valid reads stopped.0.1 stopped.1 };
  none = none;
}

pub find_trans : (trans same : ℕ) (before after : Option Lsn) (mid new : Reading) (more : Bool) (kept : Type 0) → Steps trans same before after mid new more kept → more ≡ true → same ≡ trans
find_trans trans same before after mid new true kept (r, grown, within, f) goes = f.trans_is
find_trans trans same before after mid new false kept s goes = absurd cc
