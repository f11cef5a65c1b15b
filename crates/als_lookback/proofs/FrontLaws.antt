-- What a look takes of a text.
use Rattle.std.proofs.Common.{◌≡◌, ◌⊎◌, ℕ, ◌≤◌, List, [], ◌∷◌, ◌++◌, length, take, drop, Option, Some, None, Ok, IfSome, inl, inr, refl, sym, ap, subst, ◌∙◌, append_assoc, append-nil, take-append-drop, Bool, true, false, ◌≢◌, arith}
use Rattle.std.specs.Prelude.{MatchBool}
use Rattle.std.specs.Io.KnownBytes.{Appends, Consumes, IsAtEnd, Keeps}
use Rattle.als_record.specs.declared.header.LogHeader.{LogHeader}
use Rattle.als_record.specs.declared.record.Record.{Record}
use Rattle.als_record.specs.Spelling.{record_len}
use Rattle.als_record.specs.Reading.{read_record}
use Rattle.als_record.specs.LogText.{header_bytes, spellings, log_text, end_of}
use Rattle.als_record.specs.Validity.{IsValidLog}
use Rattle.als_record.proofs.LogLaws.{spellings-nil}
use Rattle.als_record.proofs.ReadingLaws.{found_more, fault_more}
use Rattle.std.proofs.KnownBytes.{Appends-trans}
use Rattle.als_record.specs.HeaderReading.{read_header}
use Rattle.als_lookback.specs.declared.fault.Fault.{Fault}
use Rattle.als_lookback.specs.declared.fault.Fault.TheVariants.{Memory, Stream, BadHeader, BadControl, Cut, Folder, Shape, Invalid, InHeader, PastEnd, NoCommit, NotLonger, TooLong}
use Rattle.als_lookback.specs.declared.until.Until.{Until}
use Rattle.als_lookback.specs.declared.until.Until.TheVariants.{End, At}
use Rattle.als_lookback.specs.Fronts.{IsFrontOf, EndsWithin}
use Rattle.als_lookback.specs.Judged.{Judged}
use Rattle.als_lookback.specs.Readings.{Reading, Reads, HasStopped}
use Rattle.als_lookback.specs.Seen.{Seen, IsSeenOf, LooksBack}
use Rattle.als_lookback.specs.Refusals.{RefusesLook, RefusesNext, IsOfTaker, HasNoHeader}
use Rattle.als_lookback.specs.declared.standing.Standing.{Standing}
use Rattle.als_lookback.specs.Standing.{IsStandingOf, LooksOver}

no_bytes : (xs : List ℕ) → length xs ≡ 0 → xs ≡ []
no_bytes [] e = refl
no_bytes (x ∷ xs) e = absurd (omega (arith, e))

-- ---- what stands behind the records that were taken

pub split : (text unread : Option (List ℕ)) (pages : ℕ) (log : List Record) (kept : List ℕ) → Consumes text unread (log_text pages log ++ kept)
    → (more : List ℕ) × IfSome text (λ bytes. bytes ≡ log_text pages log ++ (kept ++ more)) × (IsAtEnd unread → more ≡ [])
split None unread pages log kept c = ([], tt, λ e. refl)
split (Some bytes) None pages log kept c = absurd c
split (Some bytes) (Some rest) pages log kept c = (rest, c ∙ append_assoc (log_text pages log) kept rest, λ e. e)

-- what was kept and then consumed
pub keeps_consumes : (a b c : Option (List ℕ)) (bs : List ℕ) → Keeps a b → Consumes b c bs → Consumes a c bs
keeps_consumes None b c bs p q = tt
keeps_consumes (Some x) None c bs p q = absurd p
keeps_consumes (Some x) (Some y) None bs p q = absurd q
keeps_consumes (Some x) (Some y) (Some z) bs p q = sym p ∙ q

-- ---- a look that has stopped

module _ (text : Option (List ℕ)) (r : Reading) (valid : IsValidLog r.pages r.log) (reads : Reads text r) where
  parts : (more : List ℕ) × IfSome text (λ bytes. bytes ≡ log_text r.pages r.log ++ (r.kept ++ more)) × (IsAtEnd r.unread → more ≡ [])
  parts = split text r.unread r.pages r.log r.kept reads

  pub front_is : (until : Until) → EndsWithin until r.log → HasStopped until r → IsFrontOf text until r.pages r.log
  front_is End within stopped =
      let none : r.kept ≡ [] = no_bytes r.kept stopped.0.1 in
      let all : r.kept ++ parts.0 ≡ [] = ap (λ (xs : List ℕ). r.kept ++ xs) (parts.2 stopped.1) ∙ append-nil r.kept ∙ none in
      record { valid = valid; rest = r.kept ++ parts.0; parts = parts.1; stops = all }
  front_is (At lsn) within stopped = record {
    valid = valid;
    rest = r.kept ++ parts.0;
    parts = parts.1;
    stops = (
      within,
      elim stopped [
        | inl e ↦ inl e
        | inr n ↦ inr (record { next = n.next; reading = found_more r.pages (end_of r.log) r.kept parts.0 (n.next, record_len n.next) n.reading; good = n.good; above = n.above })
      ],
    );
  }

  -- ---- a look that is refused

  pub whole : (length r.kept ≡ 0) → IsAtEnd r.unread → IfSome text (λ bytes. bytes ≡ log_text r.pages r.log)
  whole none spent = go text parts.1
    where
      all : r.kept ++ parts.0 ≡ []
      all = ap (λ (xs : List ℕ). r.kept ++ xs) (parts.2 spent) ∙ append-nil r.kept ∙ no_bytes r.kept none

      go : (t : Option (List ℕ)) → IfSome t (λ bytes. bytes ≡ log_text r.pages r.log ++ (r.kept ++ parts.0)) → IfSome t (λ bytes. bytes ≡ log_text r.pages r.log)
      go None e = tt
      go (Some bytes) e = e ∙ ap (λ (xs : List ℕ). log_text r.pages r.log ++ xs) all ∙ append-nil (log_text r.pages r.log)

  pub refused_is : (until : Until) (fault : Fault) → EndsWithin until r.log → RefusesNext until r fault → RefusesLook text until fault
  refused_is until Memory within h = tt
  refused_is until Stream within h = tt
  refused_is until (Shape fault) within h = record {
    pages = r.pages;
    log = r.log;
    rest = r.kept ++ parts.0;
    valid = valid;
    within = within;
    parts = parts.1;
    reading = fault_more r.pages (end_of r.log) r.kept parts.0 fault h.refused;
  }
  refused_is until (Invalid cause) within h = record {
    pages = r.pages;
    log = r.log;
    bad = h.refused.bad;
    rest = r.kept ++ parts.0;
    valid = valid;
    within = within;
    parts = parts.1;
    reading = found_more r.pages (end_of r.log) r.kept parts.0 (h.refused.bad, record_len h.refused.bad) h.refused.reading;
    cause_is = h.refused.cause_is;
  }
  refused_is until Cut within h =
      let all : r.kept ++ parts.0 ≡ r.kept = ap (λ (xs : List ℕ). r.kept ++ xs) (parts.2 (h.spent h.refused.0)) ∙ append-nil r.kept in
      record {
        pages = r.pages;
        log = r.log;
        rest = r.kept ++ parts.0;
        valid = valid;
        within = within;
        parts = parts.1;
        reading = ap (read_record r.pages (end_of r.log)) all ∙ h.refused.0;
      }
  refused_is End (PastEnd end) within h = absurd h.refused
  refused_is (At lsn) (PastEnd end) within h = (
    record {
      pages = r.pages;
      log = r.log;
      whole = record { valid = valid; parts = whole h.refused.1 (h.spent h.refused.0) };
      end_is = sym h.refused.2;
    },
    omega (arith, h.refused.2, h.refused.3),
  )
  refused_is until BadHeader within h = absurd h.refused
  refused_is until BadControl within h = absurd h.refused
  refused_is until (Folder fault) within h = absurd h.refused
  refused_is until InHeader within h = absurd h.refused
  refused_is until NoCommit within h = absurd h.refused
  refused_is until (NotLonger blocks) within h = absurd h.refused
  refused_is until TooLong within h = absurd h.refused

-- want of memory and a failed stream are told of any text
pub taker_refused : (text : Option (List ℕ)) (until : Until) (fault : Fault) → IsOfTaker fault → RefusesLook text until fault
taker_refused text until fault (inl e) = subst (RefusesLook text until) (sym e) tt
taker_refused text until fault (inr e) = subst (RefusesLook text until) (sym e) tt

-- a text that begins with no header
pub header_refused : (text : Option (List ℕ)) (until : Until) (fault : Fault) → IsOfTaker fault ⊎ ((fault ≡ BadHeader) × HasNoHeader text) → RefusesLook text until fault
header_refused text until fault (inl e) = taker_refused text until fault e
header_refused text until fault (inr e) = subst (RefusesLook text until) (sym e.0) e.1

-- a look that goes on from what was read so far is refused
pub look_refused : (text : Option (List ℕ)) (until : Until) (old mid new : Reading) (fault : Fault) → (Reads text old → Reads text mid) → EndsWithin until mid.log
    → IsOfTaker fault ⊎ (RefusesNext until new fault × (new.log ≡ mid.log) × IsValidLog new.pages new.log × ((t : Option (List ℕ)) → Reads t mid → Reads t new)) → Reads text old → RefusesLook text until fault
look_refused text until old mid new fault so_far within (inl e) reads = taker_refused text until fault e
look_refused text until old mid new fault so_far within (inr h) reads =
    refused_is text new h.2 (h.3 text (so_far reads)) until fault (subst (EndsWithin until) (sym h.1) within) h.0

-- ---- the beginning

pub no_header : (text unread : Option (List ℕ)) (spent : Bool) (front seen : List ℕ) → seen ≡ front → Consumes text unread front → MatchBool spent (IsAtEnd unread) (16 ≤ length seen)
    → ((h : LogHeader) → read_header seen ≢ Ok (Some h)) → HasNoHeader text
no_header None unread spent front seen e c end none = record { front = seen; rest = []; parts = tt; enough = inr refl; none = none }
no_header (Some bytes) None spent front seen e c end none = absurd c
no_header (Some bytes) (Some rest) true front seen e c end none = record { front = seen; rest = rest; parts = c ∙ ap (λ (xs : List ℕ). xs ++ rest) (sym e); enough = inr end; none = none }
no_header (Some bytes) (Some rest) false front seen e c end none = record { front = seen; rest = rest; parts = c ∙ ap (λ (xs : List ℕ). xs ++ rest) (sym e); enough = inl end; none = none }

text-nil : (pages : ℕ) → log_text pages [] ≡ header_bytes pages
text-nil pages = ap (λ (xs : List ℕ). header_bytes pages ++ xs) spellings-nil ∙ append-nil (header_bytes pages)

pub begun_reads : (text unread : Option (List ℕ)) (front : List ℕ) (pages : ℕ) (j : Judged) → Consumes text unread front → take 16 front ≡ header_bytes pages → j ≡ record { pages = pages; log = []; kept = drop 16 front }
    → Consumes text unread (log_text pages j.log ++ j.kept)
begun_reads text unread front pages j reads header is =
    let all : front ≡ log_text pages j.log ++ j.kept =
    sym (take-append-drop 16 front) ∙ ap (λ (xs : List ℕ). xs ++ drop 16 front) (header ∙ sym (text-nil pages)) ∙ sym (ap (λ (x : Judged). log_text pages x.log ++ x.kept) is) in
    subst (Consumes text unread) all reads

-- ---- what was cut

pub cut_done : (text : Option (List ℕ)) (until : Until) (start new : Reading) (before mid after : Option (List ℕ)) (taken : List Record) (end : ℕ) → start.log ≡ [] → new.pages ≡ start.pages → new.log ≡ start.log ++ taken
    → IsValidLog new.pages new.log → EndsWithin until new.log → HasStopped until new → Reads text new → Appends before mid (header_bytes start.pages) → Appends mid after (spellings taken) → end ≡ end_of new.log
    → (pages : ℕ) × (front : List Record) × IsFrontOf text until pages front × (end ≡ end_of front) × Appends before after (log_text pages front)
cut_done text until start new before mid after taken end none same grown valid within stopped reads head body ends =
    let log : new.log ≡ taken = grown ∙ ap (λ (l : List Record). l ++ taken) none in
    let written : Appends before after (log_text start.pages taken) = Appends-trans before mid after (header_bytes start.pages) (spellings taken) head body in
    let here : log_text start.pages taken ≡ log_text new.pages new.log = ap (λ n. log_text n taken) (sym same) ∙ ap (log_text new.pages) (sym log) in
    (new.pages, new.log, front_is text new valid reads until within stopped, ends, subst (Appends before after) here written)

-- ---- what was seen

-- and what is left open where it has stopped
pub looked_over : (text : Option (List ℕ)) (until : Until) (start new : Reading) (before seen : Seen) (standing : Standing) → start.log ≡ [] → new.pages ≡ start.pages → IsSeenOf before start.pages []
    → ((pages : ℕ) → IsSeenOf before pages start.log → IsSeenOf seen pages new.log) → IsValidLog new.pages new.log → EndsWithin until new.log → HasStopped until new → Reads text new
    → IsStandingOf standing new.log → LooksOver text until seen standing
looked_over text until start new before seen standing none same first more valid within stopped reads stands = record {
  pages = new.pages;
  front = new.log;
  is_front = front_is text new valid reads until within stopped;
  seen_is = subst (λ n. IsSeenOf seen n new.log) (sym same) (more start.pages (subst (IsSeenOf before start.pages) (sym none) first));
  standing_is = stands;
}
