-- The place behind a record of a transaction.
use Rattle.std.proofs.Common.{◌≡◌, ℕ, ◌+◌, true, false, cond, List, [], ◌∷◌, ◌++◌, refl, sym, ap, ◌∙◌}
use Rattle.als_record.specs.declared.record.Body.{Body}
use Rattle.als_record.specs.declared.record.Record.{Record}
use Rattle.als_record.specs.Spelling.{record_len}
use Rattle.als_record.specs.LogText.{end_of}
use Rattle.als_record.specs.Transactions.{is_transactional, is_end, is_of, is_unended, last_lsn}
use Rattle.als_record.specs.Validity.{prev_of, is_valid}
use Rattle.als_record.proofs.Numbers.{eqb-refl}
use Rattle.als_record.proofs.Records.{has_ended-own, has_ended-none, is_unended-own, is_unended-none, last_lsn-own}
use Rattle.als_record.proofs.Places.{end_of-push}
use Rattle.als_writing.specs.Writing.{is_new}
use Rattle.als_writing.proofs.Going.{IsNew, IsNew-is_new}
use Rattle.als_writing.specs.declared.place.Place.{Place}
use Rattle.als_writing.specs.Placing.{IsPlaceOf}

-- the place behind a record that is no end
module _ (place : Place) (log : List Record) (body : Body) (n : ℕ) where
  abbrev made : Record
  made = record { lsn = place.end; prev = place.prev; trans = place.trans; body = body }

  pub IsPlaceOf-next : n ≡ record_len (record { lsn = place.end; prev = place.prev; trans = place.trans; body = body }) → IsPlaceOf place log → is_transactional body ≡ true → is_end body ≡ false → IsPlaceOf (record { end = record { 0 = place.end.0 + n }; prev = place.end; trans = place.trans }) (log ++ record { lsn = place.end; prev = place.prev; trans = place.trans; body = body } ∷ [])
  unfolding prev_of
  IsPlaceOf-next len p w e = record {
    end = ap (λ a. a + n) p.end ∙ ap (λ b. end_of log + b) len ∙ sym (end_of-push log made);
    prev = sym (rw unended_one (last_lsn-own log made place.trans.0 own));
    goes_on = has_ended-own log made place.trans.0 own ∙ rw (p.goes_on, e) refl;
  }
    where
      own : is_of place.trans.0 made ≡ true
      own = rw w (eqb-refl place.trans.0)

      unended_one : is_unended (log ++ made ∷ []) place.trans.0 ≡ true
      unended_one = is_unended-own log made place.trans.0 own ∙ rw (p.goes_on, e) refl

-- the place of a new transaction
pub IsPlaceOf-first : (log : List Record) (place : Place) → is_valid log ≡ true → place.end.0 ≡ end_of log → is_new log place.trans.0 ≡ true → place.prev.0 ≡ 0 → IsPlaceOf place log
unfolding prev_of
IsPlaceOf-first log place v e n z =
    let new : IsNew log place.trans.0 = IsNew-is_new log place.trans.0 v n in
    record {
      end = e;
      prev = z ∙ sym (ap (λ b. cond b (last_lsn log place.trans.0) 0) (is_unended-none log place.trans.0 new.begun));
      goes_on = has_ended-none log place.trans.0 new.begun;
    }
