-- A reading, step by step.
use Rattle.std.proofs.Common.{◌≡◌, ℕ, ◌≤◌, Bool, true, false, List, ◌++◌, Option, inl, inr, sym, ap, subst, ◌∙◌, append_assoc, nat_lt, arith}
use Rattle.std.proofs.lemmas.Bool.{cases_Bool, eqb-true, eq-eqb, false≢true, ltb-true, ltb-false}
use Rattle.std.specs.Prelude.{MatchBool}
use Rattle.std.specs.Io.KnownBytes.{Consumes}
use Rattle.als_record.specs.declared.record.Record.{Record}
use Rattle.als_record.specs.Spelling.{spelling}
use Rattle.als_record.specs.LogText.{header_bytes, spellings, log_text, end_of}
use Rattle.als_record.proofs.LogLaws.{spellings_push}
use Rattle.als_lookback.specs.declared.until.Until.{Until}
use Rattle.als_lookback.specs.declared.until.Until.TheVariants.{End, At}
use Rattle.als_lookback.specs.Fronts.{EndsWithin, EndsBelow, is_reached}
use Rattle.als_lookback.specs.Judged.{Judged, Takes, Stops}
use Rattle.als_lookback.specs.Readings.{Reading, HasStopped, IsReady, judged_in}

-- a record that is taken was in front of the bytes behind the others
pub text_taken : (old new : Judged) (r : Record) → Takes old r new → log_text old.pages old.log ++ old.kept ≡ log_text new.pages new.log ++ new.kept
text_taken old new r t =
    let h = header_bytes old.pages in
    sym (ap (λ (j : Judged). log_text j.pages j.log ++ new.kept) t.after
    ∙ ap (λ (xs : List ℕ). (h ++ xs) ++ new.kept) (spellings_push old.log r)
    ∙ ap (λ (xs : List ℕ). xs ++ new.kept) (sym (append_assoc h (spellings old.log) (spelling r)))
    ∙ append_assoc (log_text old.pages old.log) (spelling r) new.kept
    ∙ ap (λ (xs : List ℕ). log_text old.pages old.log ++ xs) (sym t.bytes))

pub reached_stops : (until : Until) (r : Reading) → is_reached until (end_of r.log) ≡ true → HasStopped until r
reached_stops End r e = absurd cc
reached_stops (At lsn) r e = inl (eqb-true (end_of r.log) lsn.0 e)

pub unreached_below : (until : Until) (log : List Record) → EndsWithin until log → is_reached until (end_of log) ≡ false → EndsBelow until log
unreached_below End log within e = tt
unreached_below (At lsn) log within e = elim (cases_Bool (nat_lt (end_of log) lsn.0)) [
  | inl y ↦ ltb-true (end_of log) lsn.0 y
  | inr n ↦
      let high : lsn.0 ≤ end_of log = ltb-false (end_of log) lsn.0 n in
      let same : end_of log ≡ lsn.0 = omega (arith, high, within) in
      absurd (false≢true (sym e ∙ eq-eqb (end_of log) lsn.0 same))
]

pub stopped_from : (until : Until) (r : Reading) → Stops until (judged_in r) → IsReady (judged_in r) r.unread → HasStopped until r
stopped_from End r stops ready = (stops, ready stops.0)
stopped_from (At lsn) r stops ready = inr stops

-- whether the next record was taken or not, what was read of a text is that of it
pub hand_text : (A B : Record → Type 0) (C D : Type 0) (text unread : Option (List ℕ)) (pages : ℕ) (old new : Judged) (more : Bool) → old.pages ≡ pages
    → MatchBool more ((r : Record) × Takes old r new × A r × B r) (C × (new ≡ old) × D)
    → Consumes text unread (log_text pages old.log ++ old.kept) → Consumes text unread (log_text pages new.log ++ new.kept)
hand_text A B C D text unread pages old new true same (r, t, a, b) reads =
    let count : new.pages ≡ pages = ap (λ (j : Judged). j.pages) t.after ∙ same in
    let all : log_text pages old.log ++ old.kept ≡ log_text pages new.log ++ new.kept =
    ap (λ n. log_text n old.log ++ old.kept) (sym same) ∙ text_taken old new r t ∙ ap (λ n. log_text n new.log ++ new.kept) count in
    subst (Consumes text unread) all reads
hand_text A B C D text unread pages old new false same (c, e, d) reads =
    subst (Consumes text unread) (ap (λ (j : Judged). log_text pages j.log ++ j.kept) (sym e)) reads
