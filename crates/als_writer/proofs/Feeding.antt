-- A feed of planned records: all are held, or a front for want of memory.
use Rattle.std.proofs.Common.{◌≡◌, ℕ, Bool, true, false, List, [], ◌∷◌, ◌++◌, length, Option, Some, None, Result, Ok, Err, refl, sym, ap, subst, ◌∙◌, inl, inr, append_assoc, append-nil}
use Rattle.std.proofs.lemmas.List.Sums.{fold-append}
use Rattle.als_record.specs.declared.record.Record.{Record}
use Rattle.als_record.specs.declared.fault.Fault.{Fault as RecordFault}
use Rattle.als_record.specs.Spelling.{record_len}
use Rattle.als_record.specs.LogText.{spellings, end_of, IsLog}
use Rattle.als_record.specs.Reading.{read_record}
use Rattle.als_record.proofs.LogLaws.{spellings-nil}
use Rattle.als_record.specs.Pages.{change_of}
use Rattle.als_record.specs.Validity.{may_follow_all, first_bad, IsValidLog}
use Rattle.als_store.specs.Stored.{Stored, routed, IsTooLong}
use Rattle.als_engine.specs.declared.fault.Fault.{Fault}
use Rattle.als_engine.specs.declared.fault.Fault.TheVariants.{Memory}
use Rattle.als_engine.specs.declared.fed.Fed.{Fed}
use Rattle.als_engine.specs.declared.fed.FeedFault.{FeedFault}
use Rattle.als_engine.specs.Machine.{Machine}
use Rattle.als_engine.specs.Refusals.{first_of, has_refused, feed_refusal}
use Rattle.als_engine.specs.Feeds.{grown, IsCause, FeedsAll, FeedsFront, TakesPiece, Feeds, kept_fault}
use Rattle.als_writer.proofs.Reread.{IsFrontOf, found_front, Behind, Behind-log, next_read, next_follows, nothing_read}

-- records that the engine may not refuse but for want of memory
pub record IsPlanned (m : Machine) (planned : List Record) : Type 0 where
  pub partial : m.partial ≡ []
  pub text : IsLog m.held.pages (m.held.log ++ planned)
  pub each : may_follow_all m.held.log planned ≡ true
  pub fits : (front : List Record) (r : Record) (more : List Record) → planned ≡ front ++ r ∷ more → IsTooLong (grown m.held front) r → ⊥

-- the record that was read
abbrev record_read : Record → Result (Option (Record × ℕ)) RecordFault → Record
record_read d (Ok (Some found)) = found.0
record_read d (Ok None) = d
record_read d (Err f) = d

one_read : (x y : Record) (n k : ℕ) (read : Result (Option (Record × ℕ)) RecordFault) → read ≡ Ok (Some (x, n)) → read ≡ Ok (Some (y, k)) → x ≡ y
one_read x y n k read e f = sym (ap (record_read x) e) ∙ ap (record_read x) f

-- ---- an engine that takes records keeps no fault

no_fault : (a b c : Bool) (p q s : Fault) (kept : Option Fault) (rest : List (Bool × Fault)) → first_of ((a, p) ∷ (b, q) ∷ (c, s) ∷ (has_refused kept ++ rest)) ≡ None → kept ≡ None
no_fault true b c p q s kept rest e = cc e
no_fault false true c p q s kept rest e = cc e
no_fault false false true p q s kept rest e = cc e
no_fault false false false p q s None rest e = refl
no_fault false false false p q s (Some f) rest e = cc e

pub unrefused : (m : Machine) → feed_refusal m ≡ None → m.refused ≡ None
unrefused m e = no_fault (m.held.broken) (m.held.recovering) _ _ _ _ m.refused _ e

-- ---- more records

pub grown_none : (s : Stored) → grown s [] ≡ s
grown_none s = ap (λ (l : List Record). record s { log = l }) (append-nil s.log)

pub grown_more : (s : Stored) (xs ys : List Record) → grown (grown s xs) ys ≡ grown s (xs ++ ys)
grown_more s xs ys = λ j. record s {
  log = append_assoc s.log xs ys j;
  pool = sym (fold-append (λ pool r. routed pool (change_of r)) s.pool xs ys) j;
}

-- ---- what a feed of planned records may answer

module _ (m : Machine) (planned : List Record) (piece : List ℕ) (spelled : piece ≡ spellings planned) (p : IsPlanned m planned) where
  front_of : (records : List Record) (rest : List ℕ) → m.partial ++ piece ≡ spellings records ++ rest → IsValidLog m.held.pages (m.held.log ++ records) → IsFrontOf planned records rest
  front_of records rest e valid =
      let a : Behind m.held.pages m.held.log planned = Behind-log m.held.pages m.held.log planned p.text in
      let b : Behind m.held.pages m.held.log records = Behind-log m.held.pages m.held.log records valid.text in
      found_front m.held.pages (end_of m.held.log) planned records rest a.follows b.follows a.records b.records
      (sym spelled ∙ ap (λ (x : List ℕ). x ++ piece) (sym p.partial) ∙ e)

  next_text : (front : List Record) (r : Record) (more : List Record) → planned ≡ front ++ r ∷ more → read_record m.held.pages (end_of (m.held.log ++ front)) (spellings (r ∷ more)) ≡ Ok (Some (r, record_len r))
  next_text front r more e = next_read m.held.pages m.held.log front r more (subst (λ (l : List Record). IsLog m.held.pages (m.held.log ++ l)) e p.text)

  -- ---- all of the piece is taken

  whole : (more : List Record) (records : List Record) (rest : List ℕ) → planned ≡ records ++ more → rest ≡ spellings more → read_record m.held.pages (end_of (m.held.log ++ records)) rest ≡ Ok None → records ≡ planned
  whole [] records rest e is waits = sym (e ∙ append-nil records)
  whole (r ∷ more) records rest e is waits = cc (sym waits ∙ ap (read_record m.held.pages (end_of (m.held.log ++ records))) is ∙ next_text records r more e)

  nothing_left : (planned records more : List Record) → planned ≡ records ++ more → records ≡ planned → more ≡ []
  nothing_left planned records [] e s = refl
  nothing_left planned records (r ∷ more) e s = absurd (too_long records r more (s ∙ e))
    where
      too_long : (xs : List Record) (r : Record) (more : List Record) → xs ≡ xs ++ r ∷ more → ⊥
      too_long [] r more f = cc f
      too_long (x ∷ xs) r more f = too_long xs r more (cc f)

  pub fed_all : (fed : Fed) (new : Machine) → FeedsAll m piece fed new → new ≡ record m { held = grown m.held planned }
  fed_all fed new f =
      let front : IsFrontOf planned f.records f.rest = front_of f.records f.rest f.split.whole f.split.is_log in
      let same : f.records ≡ planned = whole front.more f.records f.rest front.parts front.rest_is f.waits in
      let none : f.rest ≡ [] = front.rest_is ∙ ap spellings (nothing_left planned f.records front.more front.parts same) ∙ spellings-nil in
      f.after
      ∙ ap (λ (b : List ℕ). record m { held = grown m.held f.records; partial = b }) (none ∙ sym p.partial)
      ∙ ap (λ (us : List Record). record m { held = grown m.held us }) same

  -- ---- a front is held

  only_memory : (more : List Record) (records : List Record) (rest : List ℕ) (fault : Fault) → planned ≡ records ++ more → rest ≡ spellings more → IsCause (grown m.held records) rest fault → fault ≡ Memory
  only_memory [] records rest fault e is (inl a) = cc (sym (nothing_read m.held.pages (end_of (m.held.log ++ records))) ∙ ap (read_record m.held.pages (end_of (m.held.log ++ records))) (sym is) ∙ a.1)
  only_memory [] records rest fault e is (inr (inl a)) = cc (sym (nothing_read m.held.pages (end_of (m.held.log ++ records))) ∙ ap (read_record m.held.pages (end_of (m.held.log ++ records))) (sym is) ∙ a.2)
  only_memory [] records rest fault e is (inr (inr (inl a))) = cc (sym (nothing_read m.held.pages (end_of (m.held.log ++ records))) ∙ ap (read_record m.held.pages (end_of (m.held.log ++ records))) (sym is) ∙ a.1)
  only_memory [] records rest fault e is (inr (inr (inr a))) = a
  only_memory (r ∷ more) records rest fault e is (inl a) = cc (sym (next_text records r more e) ∙ ap (read_record m.held.pages (end_of (m.held.log ++ records))) (sym is) ∙ a.1)
  only_memory (r ∷ more) records rest fault e is (inr (inl a)) =
      let at : ℕ = end_of (m.held.log ++ records) in
      let same : r ≡ a.0 = one_read r a.0 (record_len r) (record_len a.0) (read_record m.held.pages at (spellings (r ∷ more))) (next_text records r more e) (ap (read_record m.held.pages at) (sym is) ∙ a.2) in
      cc (sym (next_follows m.held.log records r more (subst (λ (l : List Record). may_follow_all m.held.log l ≡ true) e p.each)) ∙ ap (first_bad (m.held.log ++ records)) same ∙ a.3)
  only_memory (r ∷ more) records rest fault e is (inr (inr (inl a))) =
      let at : ℕ = end_of (m.held.log ++ records) in
      let same : r ≡ a.0 = one_read r a.0 (record_len r) (record_len a.0) (read_record m.held.pages at (spellings (r ∷ more))) (next_text records r more e) (ap (read_record m.held.pages at) (sym is) ∙ a.1) in
      absurd (p.fits records r more e (subst (IsTooLong (grown m.held records)) (sym same) a.3))
  only_memory (r ∷ more) records rest fault e is (inr (inr (inr a))) = a

  -- a front of the planned records is held, for want of memory
  pub record IsHeldFront (refusal : FeedFault) (new : Machine) : Type 0 where
    pub front : List Record
    pub more : List Record
    pub parts : planned ≡ front ++ more
    pub cause : refusal.fault ≡ Memory
    pub count : refusal.records ≡ length front
    pub after : new ≡ record m { held = grown m.held front }

  pub fed_front : (refusal : FeedFault) (new : Machine) → m.refused ≡ None → FeedsFront m piece refusal new → IsHeldFront refusal new
  fed_front refusal new clean f =
      let front : IsFrontOf planned f.records f.rest = front_of f.records f.rest f.split.whole f.split.is_log in
      let cause : refusal.fault ≡ Memory = only_memory front.more f.records f.rest refusal.fault front.parts front.rest_is f.cause in
      record {
        front = f.records;
        more = front.more;
        parts = front.parts;
        cause = cause;
        count = f.count;
        after = f.after
            ∙ ap (λ (kept : Option Fault). record m { held = grown m.held f.records; partial = []; refused = kept }) (ap kept_fault cause ∙ sym clean)
            ∙ ap (λ (b : List ℕ). record m { held = grown m.held f.records; partial = b }) (sym p.partial);
      }

  -- ---- both, of a feed

  taken : (cause : Option Fault) (result : Result Fed FeedFault) (new : Machine) → cause ≡ None → Feeds m piece cause result new → TakesPiece m piece result new
  taken cause result new e f = subst (λ (o : Option Fault). Feeds m piece o result new) e f

  pub feed_done : (fed : Fed) (new : Machine) → feed_refusal m ≡ None → Feeds m piece (feed_refusal m) (Ok fed) new → new ≡ record m { held = grown m.held planned }
  feed_done fed new takes f = fed_all fed new (taken (feed_refusal m) (Ok fed) new takes f)

  pub feed_refused : (refusal : FeedFault) (new : Machine) → feed_refusal m ≡ None → Feeds m piece (feed_refusal m) (Err refusal) new → IsHeldFront refusal new
  feed_refused refusal new takes f = fed_front refusal new (unrefused m takes) (taken (feed_refusal m) (Err refusal) new takes f)
