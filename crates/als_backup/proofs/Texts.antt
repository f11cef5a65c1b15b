-- What has come of a log, record by record.
use Rattle.std.specs.Prelude.{MatchBool}
use Rattle.std.proofs.Common.{◌≡◌, ℕ, Bool, true, false, List, [], ◌∷◌, ◌++◌, length, Option, Some, None, Ok, refl, sym, ap, subst, ◌∙◌, append_assoc, append-nil, length-append, arith}
use Rattle.als_record.specs.declared.record.Record.{Record}
use Rattle.als_record.specs.LogText.{header_bytes, log_text, end_of}
use Rattle.als_record.specs.Validity.{IsValidLog}
use Rattle.als_record.proofs.LogLaws.{spellings-nil}
use Rattle.als_ship.proofs.Fronts.{text_end}
use Rattle.als_compare.specs.declared.summing.Summing.{Summing}
use Rattle.als_compare.specs.Summaries.{Sums}
use Rattle.als_lookback.specs.declared.fault.Fault.{Fault}
use Rattle.als_lookback.specs.declared.until.Until.TheVariants.{End}
use Rattle.als_lookback.specs.Judged.{Judged, Takes, begun, position_of, reading_of}
use Rattle.als_lookback.specs.Readings.{Reading}
use Rattle.als_lookback.specs.Refusals.{RefusesIn, RefusesLook}
use Rattle.als_lookback.proofs.JudgeLaws.{valid-nil}
use Rattle.als_lookback.proofs.StepLaws.{text_taken}
use Rattle.als_lookback.proofs.FrontLaws.{refused_is}
use Rattle.als_backup.specs.Texts.{held_in}

pub length_held : (j : Judged) → length (held_in j) ≡ position_of j
length_held j = omega (arith, length-append (log_text j.pages j.log) j.kept, text_end j.pages j.log)

pub held_pushed : (old new : Judged) (piece : List ℕ) → new ≡ record { pages = old.pages; log = old.log; kept = old.kept ++ piece } → held_in new ≡ held_in old ++ piece
held_pushed old new piece e = ap held_in e ∙ sym (append_assoc (log_text old.pages old.log) old.kept piece)

pub held_taken : (old new : Judged) (r : Record) → Takes old r new → held_in new ≡ held_in old
held_taken old new r t = sym (text_taken old new r t)

pub begun_held : (pages : ℕ) → held_in (begun pages) ≡ header_bytes pages
begun_held pages = append-nil (log_text pages []) ∙ ap (λ (xs : List ℕ). header_bytes pages ++ xs) spellings-nil ∙ append-nil (header_bytes pages)

pub sums_end : (s : Summing) (text : List ℕ) → Sums s text → s.end ≡ length text
unfolding Sums
sums_end s text h = h.1

-- what has come of a valid log, and is refused where it ends, is refused as a text
pub refused_text : (j : Judged) (fault : Fault) → IsValidLog j.pages j.log → RefusesIn End j fault → RefusesLook (Some (held_in j)) End fault
refused_text j fault valid refused =
    let r : Reading = record { pages = j.pages; log = j.log; kept = j.kept; unread = Some [] } in
    refused_is (Some (held_in j)) r valid (sym (append-nil (held_in j))) End fault tt (record { refused = refused; spent = λ _. refl })

-- no byte is left where what has come ends with the records
pub none_left : (j : Judged) → position_of j ≡ end_of j.log → j.kept ≡ []
none_left j e = no_bytes j.kept (omega (arith, e))
  where
    no_bytes : (xs : List ℕ) → length xs ≡ 0 → xs ≡ []
    no_bytes [] e = refl
    no_bytes (x ∷ xs) e = absurd (omega (arith, e))

-- a header alone
pub new_text : (j : Judged) (none s : Summing) (pages : ℕ) (bytes : List ℕ) → j ≡ begun pages → Sums none [] → ((text : List ℕ) → Sums none text → Sums s (text ++ bytes)) → bytes ≡ header_bytes pages
    → (j.pages ≡ pages) × IsValidLog j.pages j.log × Sums s (held_in j)
new_text j none s pages bytes is first more header = (
  ap (λ (x : Judged). x.pages) is,
  subst (λ (x : Judged). IsValidLog x.pages x.log) (sym is) (valid-nil pages),
  subst (Sums s) (header ∙ sym (begun_held pages) ∙ sym (ap held_in is)) (more [] first),
)

-- whether a record was taken or not, what has come is the same
pub held_handed : (A B : Record → Type 0) (C D : Type 0) (old new : Judged) (more : Bool) → MatchBool more ((r : Record) × Takes old r new × A r × B r) (C × (new ≡ old) × D) → (held_in new ≡ held_in old) × (new.pages ≡ old.pages)
held_handed A B C D old new true (r, t, a, b) = (held_taken old new r t, ap (λ (j : Judged). j.pages) t.after)
held_handed A B C D old new false (c, same, d) = (ap held_in same, ap (λ (j : Judged). j.pages) same)

-- bytes came, whole records of them were judged, and one was refused
pub take_refused : (old mid new : Judged) (piece : List ℕ) (fault : Fault) → mid ≡ record { pages = old.pages; log = old.log; kept = old.kept ++ piece } → IsValidLog old.pages old.log → held_in new ≡ held_in mid
    → (IsValidLog mid.pages mid.log → IsValidLog new.pages new.log) → RefusesIn End new fault → RefusesLook (Some (held_in old ++ piece)) End fault
take_refused old mid new piece fault e valid same keeps refused =
    subst (λ (xs : List ℕ). RefusesLook (Some xs) End fault) (same ∙ held_pushed old mid piece e) (refused_text new fault (keeps (subst (λ (j : Judged). IsValidLog j.pages j.log) (sym e) valid)) refused)
