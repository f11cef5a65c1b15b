-- A judge, record by record.
use Rattle.std.proofs.Common.{◌≡◌, ◌≢◌, ℕ, ◌+◌, List, [], ◌∷◌, ◌++◌, drop, Option, Some, None, Result, Ok, Err, refl, sym, ap, subst, ◌∙◌, arith, false, leb-true, leb-false}
use Rattle.std.specs.Prelude.{MatchOption, true}
use Rattle.als_record.specs.declared.fault.Fault.{Fault as ShapeFault}
use Rattle.als_record.specs.declared.fault.Fault.TheVariants as shape
use Rattle.als_record.specs.declared.record.Record.{Record}
use Rattle.als_record.specs.Spelling.{record_len, spelling}
use Rattle.als_record.specs.Reading.{read_record}
use Rattle.als_record.specs.LogText.{end_of, follow_from}
use Rattle.als_record.specs.Validity.{IsValidLog, first_bad, is_valid, may_follow_all}
use Rattle.als_record.proofs.LogLaws.{end_of_push}
use Rattle.als_record.proofs.Validity.{first_bad-none, may_follow-admitted}
use Rattle.als_record.proofs.TailFirst.{IsValidLog-push}
use Rattle.als_receiver.specs.declared.refusal.Refusal.{Refusal}
use Rattle.als_receiver.specs.Reception.{Reception, fresh, behind, CanHandOut, IsRefusal}
use Rattle.als_validator.specs.Validated.{IsValidatorOf, judges}
use Rattle.als_validator.specs.declared.validator.Validator.{Validator}
use Rattle.als_lookback.specs.declared.fault.Fault.{Fault}
use Rattle.als_lookback.specs.declared.fault.Fault.TheVariants.{Memory, Stream, BadHeader, BadControl, Cut, Folder, Shape, Invalid, InHeader, PastEnd, NoCommit, NotLonger, TooLong}
use Rattle.als_lookback.specs.declared.until.Until.{Until}
use Rattle.als_lookback.specs.declared.until.Until.TheVariants.{End, At}
use Rattle.als_lookback.specs.FaultNames.{of_shape}
use Rattle.als_lookback.specs.Fronts.{EndsWithin, is_within}
use Rattle.als_lookback.specs.Judged.{Judged, IsJudge, Takes, Stops, reading_of}
use Rattle.als_lookback.specs.Refusals.{IsCauseAt, RefusesIn}

-- ---- the beginning

pub valid-nil : (pages : ℕ) → IsValidLog pages []
unfolding follow_from is_valid may_follow_all
valid-nil pages = record { text = record { laid_out = refl; records = tt }; valid = refl }

pub end-nil : end_of [] ≡ 16
unfolding end_of
end-nil = refl

pub judge_new : (pages : ℕ) (r : Reception) (v : Validator) (log : List Record) → r ≡ fresh 16 pages → log ≡ [] → IsValidatorOf pages v [] → judges v ≡ true → IsJudge r v log
judge_new pages r v log is none known judging =
    let count : pages ≡ r.pages = sym (ap (λ (x : Reception). x.pages) is) in
    record {
      valid = subst (IsValidLog r.pages) (sym none) (valid-nil r.pages);
      known = subst (IsValidatorOf r.pages v) (sym none) (subst (λ n. IsValidatorOf n v []) count known);
      judging = judging;
      wanted = ap (λ (x : Reception). x.wanted) is ∙ sym end-nil ∙ ap end_of (sym none);
      unrefused = ap (λ (x : Reception). x.refusal) is;
    }

-- ---- a look at the next record

pub refusal_reading : (r : Reception) (refusal : Refusal) → r.refusal ≡ None → IsRefusal r refusal → read_record r.pages r.wanted r.kept ≡ Err refusal.fault
refusal_reading r refusal none is =
    (subst (λ (o : Option Refusal). MatchOption o ((refusal.lsn.0 ≡ r.wanted) × (read_record r.pages r.wanted r.kept ≡ Err refusal.fault)) (λ before. refusal ≡ before)) none is).1

module _ (r : Reception) (v : Validator) (log : List Record) (is : IsJudge r v log) where
  here : (x : Result (Option (Record × ℕ)) ShapeFault) → read_record r.pages r.wanted r.kept ≡ x → read_record r.pages (end_of log) r.kept ≡ x
  here x e = ap (λ n. read_record r.pages n r.kept) (sym is.wanted) ∙ e

  pub shows_there : (s : Record) (len : ℕ) → CanHandOut r s len → read_record r.pages (end_of log) r.kept ≡ Ok (Some (s, record_len s))
  shows_there s len can = here (Ok (Some (s, record_len s))) can.out.reading

  pub refuses_there : (refusal : Refusal) → IsRefusal r refusal → read_record r.pages (end_of log) r.kept ≡ Err refusal.fault
  refuses_there refusal h = here (Err refusal.fault) (refusal_reading r refusal is.unrefused h)

  -- ---- a record that is taken

  pub valid_there : (s : Record) (len : ℕ) → CanHandOut r s len → first_bad log s ≡ None → IsValidLog r.pages (log ++ s ∷ [])
  valid_there s len can good = IsValidLog-push r.pages log s is.valid (may_follow-admitted log s (first_bad-none log s (can.out.place ∙ is.wanted) good)) can.out.fits

  pub took_judge : (new : Reception) (w : Validator) (longer : List Record) (found s : Record) (len : ℕ) → CanHandOut r s len → found ≡ s → new ≡ behind r len → longer ≡ log ++ found ∷ []
      → first_bad log s ≡ None → IsValidatorOf r.pages w (log ++ s ∷ []) → judges w ≡ true → IsJudge new w longer
  took_judge new w longer found s len can copy e h good known judging =
      let same : log ++ s ∷ [] ≡ longer = ap (λ (x : Record). log ++ x ∷ []) (sym copy) ∙ sym h in
      let count : r.pages ≡ new.pages = sym (ap (λ (x : Reception). x.pages) e) in
      record {
        valid = subst (IsValidLog new.pages) same (subst (λ n. IsValidLog n (log ++ s ∷ [])) count (valid_there s len can good));
        known = subst (IsValidatorOf new.pages w) same (subst (λ n. IsValidatorOf n w (log ++ s ∷ [])) count known);
        judging = judging;
        wanted = ap (λ (x : Reception). x.wanted) e ∙ ap (λ n. n + len) is.wanted ∙ ap (λ n. end_of log + n) can.size ∙ sym (end_of_push log s) ∙ ap end_of same;
        unrefused = ap (λ (x : Reception). x.refusal) e;
      }

  pub takes_there : (new : Reception) (longer : List Record) (found s : Record) (len : ℕ) → CanHandOut r s len → found ≡ s → new ≡ behind r len → longer ≡ log ++ found ∷ [] → first_bad log s ≡ None
      → Takes (record { pages = r.pages; log = log; kept = r.kept }) found (record { pages = new.pages; log = longer; kept = new.kept })
  takes_there new longer found s len can copy e h good =
      let kept : drop len r.kept ≡ new.kept = sym (ap (λ (x : Reception). x.kept) e) in
      record {
        reading = shows_there s len can ∙ ap (λ (x : Record). Ok (Some (x, record_len x))) (sym copy);
        good = ap (first_bad log) copy ∙ good;
        bytes = can.out.bytes ∙ ap (λ (x : Record). spelling x ++ drop len r.kept) (sym copy) ∙ ap (λ (xs : List ℕ). spelling found ++ xs) kept;
        after = ap (λ n. record { pages = n; log = longer; kept = new.kept }) (ap (λ (x : Reception). x.pages) e) ∙ ap (λ (l : List Record). record { pages = r.pages; log = l; kept = new.kept }) h;
      }

  -- ---- one that is not

  pub cause_there : (until : Until) (s : Record) (len : ℕ) (fault : Fault) → CanHandOut r s len → IsCauseAt log s fault → RefusesIn until (record { pages = r.pages; log = log; kept = r.kept }) fault
  cause_there until s len (Invalid cause) can is_cause = record { bad = s; reading = shows_there s len can; cause_is = is_cause }
  cause_there until s len Memory can is_cause = tt
  cause_there until s len Stream can is_cause = absurd is_cause
  cause_there until s len BadHeader can is_cause = absurd is_cause
  cause_there until s len BadControl can is_cause = absurd is_cause
  cause_there until s len Cut can is_cause = absurd is_cause
  cause_there until s len (Folder fault) can is_cause = absurd is_cause
  cause_there until s len (Shape fault) can is_cause = absurd is_cause
  cause_there until s len InHeader can is_cause = absurd is_cause
  cause_there until s len (PastEnd end) can is_cause = absurd is_cause
  cause_there until s len NoCommit can is_cause = absurd is_cause
  cause_there until s len (NotLonger blocks) can is_cause = absurd is_cause
  cause_there until s len TooLong can is_cause = absurd is_cause

  -- ---- one that ends above the LSN

  pub stops_there : (until : Until) (s : Record) (len : ℕ) → CanHandOut r s len → first_bad log s ≡ None → is_within until (r.wanted + len) ≡ false → Stops until (record { pages = r.pages; log = log; kept = r.kept })
  stops_there End s len can good above = absurd cc
  stops_there (At lsn) s len can good above = record {
    next = s;
    reading = shows_there s len can;
    good = good;
    above = omega (arith, leb-false (r.wanted + len) lsn.0 above, is.wanted, can.size);
  }

  -- ---- one that is taken, and ends at or below it

  pub within_there : (until : Until) (new : Reception) (longer : List Record) (s : Record) (len : ℕ) → CanHandOut r s len → longer ≡ log ++ s ∷ [] → is_within until (r.wanted + len) ≡ true → EndsWithin until longer
  within_there End new longer s len can h below = tt
  within_there (At lsn) new longer s len can h below = omega (arith, leb-true (r.wanted + len) lsn.0 below, is.wanted, can.size, end_of_push log s, ap end_of h)

pub refuses_shape : (until : Until) (j : Judged) (fault : ShapeFault) → fault ≢ shape.Memory → reading_of j ≡ Err fault → RefusesIn until j (of_shape fault)
refuses_shape until j shape.Memory some e = absurd (some refl)
refuses_shape until j shape.BadHeader some e = e
refuses_shape until j shape.BadLength some e = e
refuses_shape until j shape.BadType some e = e
refuses_shape until j shape.BadReserved some e = e
refuses_shape until j shape.WrongLsn some e = e
refuses_shape until j shape.BadKey some e = e
refuses_shape until j shape.BadValue some e = e
