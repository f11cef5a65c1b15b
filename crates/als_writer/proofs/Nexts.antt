-- One record that may follow, fed: it is held, or nothing is.
use Rattle.std.proofs.Common.{◌≡◌, ◌⊎◌, ℕ, ◌+◌, ◌*◌, ◌<◌, ◌≤◌, ◌^◌, true, List, [], ◌∷◌, ◌++◌, length, Option, None, Some, Ok, Err, refl, sym, ap, subst, ◌∙◌, inl, inr, append-nil, arith}
use Rattle.std.proofs.lemmas.Bool.{and_parts, and_from}
use Rattle.als_record.specs.declared.record.Record.{Record}
use Rattle.als_record.specs.Spelling.{record_len, spelling}
use Rattle.als_record.specs.LogText.{spellings, end_of}
use Rattle.als_record.specs.Validity.{is_valid, may_follow, may_follow_all, IsValidLog}
use Rattle.als_record.specs.Tail.{reserve_of}
use Rattle.als_record.proofs.LogLaws.{spellings-nil, spellings-cons}
use Rattle.als_record.proofs.Validity.{is_valid-push}
use Rattle.als_store.specs.Stored.{Stored, IsTooLong}
use Rattle.als_engine.specs.declared.fault.Fault.{Fault}
use Rattle.als_engine.specs.declared.fault.Fault.TheVariants as fault
use Rattle.als_engine.specs.declared.fed.Fed.{Fed}
use Rattle.als_engine.specs.declared.fed.FeedFault.{FeedFault}
use Rattle.als_engine.specs.Machine.{Machine}
use Rattle.als_engine.specs.Refusals.{feed_refusal}
use Rattle.als_engine.specs.Feeds.{grown, Feeds, refused_whole}
use Rattle.als_writer.specs.Feeding.{IsNext, TakesNext}
use Rattle.als_writer.proofs.Feeding.{IsPlanned, IsHeldFront, grown_none, feed_done, feed_refused}

one_only : (r s : Record) (front more : List Record) → r ∷ [] ≡ front ++ s ∷ more → (front ≡ []) × (r ≡ s)
one_only r s [] more e = let q : r ≡ s = cc e in (refl, q)
one_only r s (x ∷ []) more e = cc e
one_only r s (x ∷ y ∷ front) more e = cc e

one_front : (r : Record) (front more : List Record) → r ∷ [] ≡ front ++ more → (front ≡ []) ⊎ (front ≡ r ∷ [])
one_front r [] more e = inl refl
one_front r (x ∷ []) more e = let q : x ≡ r = cc e in inr (ap (λ (y : Record). y ∷ []) q)
one_front r (x ∷ y ∷ front) more e = cc e

module _ (m : Machine) (r : Record) (o : IsNext m r) (valid : IsValidLog m.held.pages m.held.log) (short : end_of m.held.log < 2 ^ 64) (roomy : end_of m.held.log + reserve_of m.held.log ≤ 512 * m.held.blocks) where
  next : IsValidLog m.held.pages (m.held.log ++ r ∷ [])
  next = o.follows valid short

  fits : (front : List Record) (s : Record) (more : List Record) → r ∷ [] ≡ front ++ s ∷ more → IsTooLong (grown m.held front) s → ⊥
  fits front s more e long =
      let q = one_only r s front more e in
      let here : 512 * m.held.blocks < end_of (m.held.log ++ []) + record_len r + reserve_of ((m.held.log ++ []) ++ r ∷ []) =
      subst (λ (f : List Record). 512 * m.held.blocks < end_of (m.held.log ++ f) + record_len r + reserve_of ((m.held.log ++ f) ++ r ∷ [])) q.0
      (subst (λ (x : Record). 512 * m.held.blocks < end_of (m.held.log ++ front) + record_len x + reserve_of ((m.held.log ++ front) ++ x ∷ [])) (sym q.1) long) in
      let over : 512 * m.held.blocks < end_of m.held.log + record_len r + reserve_of (m.held.log ++ r ∷ []) =
      subst (λ (l : List Record). 512 * m.held.blocks < end_of l + record_len r + reserve_of (l ++ r ∷ [])) (append-nil m.held.log) here in
      let less : record_len r + reserve_of (m.held.log ++ r ∷ []) ≤ reserve_of m.held.log = o.reserved in
      absurd (omega (arith, over, less, roomy))

  may : may_follow_all m.held.log (r ∷ []) ≡ true
  unfolding may_follow_all
  may = and_from (may_follow m.held.log r) true (and_parts (is_valid m.held.log) (may_follow m.held.log r) (sym (is_valid-push m.held.log r) ∙ next.valid)).1 refl

  planned : IsPlanned m (r ∷ [])
  planned = record { partial = o.partial; text = next.text; each = may; fits = fits }

  held : (new : Machine) → new ≡ record m { held = grown m.held (r ∷ []) } → TakesNext m r new
  held new after = record { after = after; valid = next }

  module _ (piece : List ℕ) (spelled : piece ≡ spellings (r ∷ [])) where
    done_by : (cause : Option Fault) (fed : Fed) (new : Machine) → feed_refusal m ≡ cause → Feeds m piece cause (Ok fed) new → TakesNext m r new
    done_by None fed new e f = held new (feed_done m (r ∷ []) piece spelled planned fed new e (subst (λ (o : Option Fault). Feeds m piece o (Ok fed) new) (sym e) f))
    done_by (Some cause) fed new e f = cc f.0

    pub next_done : (fed : Fed) (new : Machine) → Feeds m piece (feed_refusal m) (Ok fed) new → TakesNext m r new
    next_done fed new f = done_by (feed_refusal m) fed new refl f

    -- it is held for all that, or nothing is
    pub record Stopped (refusal : FeedFault) (new : Machine) : Type 0 where
      pub held_one : 0 < refusal.records → TakesNext m r new
      pub held_none : refusal.records ≡ 0 → new ≡ m
      pub other : (refusal.fault ≡ fault.Memory → ⊥) → new ≡ m
      pub cause : (refusal.fault ≡ fault.Memory → ⊥) → feed_refusal m ≡ Some refusal.fault

    stopped_front : (refusal : FeedFault) (new : Machine) → (h : IsHeldFront m (r ∷ []) piece spelled planned refusal new) → (h.front ≡ []) ⊎ (h.front ≡ r ∷ []) → Stopped refusal new
    stopped_front refusal new h (inl e) =
        let none : length h.front ≡ 0 = ap length e in
        let c : refusal.records ≡ length h.front = h.count in
        record {
          held_one = λ some. absurd (omega (arith, none, c, some));
          held_none = λ z. h.after ∙ ap (λ (l : List Record). record m { held = grown m.held l }) e ∙ ap (λ (s : Stored). record m { held = s }) (grown_none m.held);
          other = λ n. absurd (n h.cause);
          cause = λ n. absurd (n h.cause);
        }
    stopped_front refusal new h (inr e) =
        let one : length h.front ≡ 1 = ap length e in
        let c : refusal.records ≡ length h.front = h.count in
        record {
          held_one = λ some. held new (h.after ∙ ap (λ (l : List Record). record m { held = grown m.held l }) e);
          held_none = λ z. absurd (omega (arith, one, c, z));
          other = λ n. absurd (n h.cause);
          cause = λ n. absurd (n h.cause);
        }

    stopped_by : (cause : Option Fault) (refusal : FeedFault) (new : Machine) → feed_refusal m ≡ cause → Feeds m piece cause (Err refusal) new → Stopped refusal new
    stopped_by None refusal new e f =
        let h = feed_refused m (r ∷ []) piece spelled planned refusal new e (subst (λ (o : Option Fault). Feeds m piece o (Err refusal) new) (sym e) f) in
        stopped_front refusal new h (one_front r h.front h.more h.parts)
    stopped_by (Some cause) refusal new e f =
        let same : refusal ≡ refused_whole cause = cc f.0 in
        let none : refusal.records ≡ 0 = ap (λ (x : FeedFault). x.records) same in
        record {
          held_one = λ some. absurd (omega (arith, none, some));
          held_none = λ z. f.1;
          other = λ n. f.1;
          cause = λ n. e ∙ ap (λ (x : FeedFault). let s : Option Fault = Some x.fault in s) (sym same);
        }

    pub next_stopped : (refusal : FeedFault) (new : Machine) → Feeds m piece (feed_refusal m) (Err refusal) new → Stopped refusal new
    next_stopped refusal new f = stopped_by (feed_refusal m) refusal new refl f

pub spelled_one : (r : Record) (piece : List ℕ) → piece ≡ [] ++ spelling r → piece ≡ spellings (r ∷ [])
spelled_one r piece e = e ∙ sym (append-nil (spelling r)) ∙ ap (λ (b : List ℕ). spelling r ++ b) (sym spellings-nil) ∙ sym (spellings-cons r [])
